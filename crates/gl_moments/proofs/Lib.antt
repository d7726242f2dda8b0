mod Counting
mod Meeting
mod Ranging
mod Sorting
mod Standing
mod Walking
