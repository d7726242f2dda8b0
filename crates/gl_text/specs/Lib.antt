pub mod Texts
pub mod Numbers
pub mod Changing
pub mod Ids
pub mod SyslogNames
