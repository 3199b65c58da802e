mod Memory
mod Names
