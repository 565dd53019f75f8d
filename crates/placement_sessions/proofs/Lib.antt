mod Asking
mod Examples
mod Framed
mod Looked
mod StateTurning
mod StateGoing
