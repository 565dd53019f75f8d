mod Examples
mod Moments
mod Failing
mod Promoting
mod UnderWay
mod Openings
