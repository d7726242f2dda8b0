mod Ordering
mod Showing
mod Placing
