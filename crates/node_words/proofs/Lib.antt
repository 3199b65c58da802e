mod Keys
mod Named
