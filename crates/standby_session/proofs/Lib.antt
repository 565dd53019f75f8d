mod Reading
mod Making
mod Answering
mod Serving
mod Framing
mod Kept
mod Imaged
