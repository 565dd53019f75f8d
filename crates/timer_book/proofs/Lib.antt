mod Places
mod Same
mod Firsts
mod Actors
mod Fires
mod Keeps
mod Trees
mod Rows
