mod Leftovers
mod Makings
