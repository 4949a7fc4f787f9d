mod Spelled
mod Below
mod Made
mod Rises
