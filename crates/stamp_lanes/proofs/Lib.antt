mod KeptFacts
mod LaneFacts
mod NodeFacts
mod Draws
mod Spent
mod Rows
mod Examples
