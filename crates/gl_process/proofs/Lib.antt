mod Compilable
mod Ranges
