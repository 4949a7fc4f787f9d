mod Alike
mod Stored
