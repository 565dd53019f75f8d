mod Sorted
mod Dues
mod Newest
mod Examples
mod Timely
