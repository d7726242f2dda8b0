mod Members
mod Values
