mod Beginning
mod Staying
