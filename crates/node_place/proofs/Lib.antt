mod Bytes
mod Names
mod OnePlace
mod Printed
mod Spelt
