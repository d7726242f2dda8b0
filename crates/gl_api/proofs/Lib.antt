mod Asking
mod Isolation
