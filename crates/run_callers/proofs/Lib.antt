mod Callers
mod Pages
mod Sessions
