mod Rising
mod Staying
mod Telling
mod Rows
