mod Decimals
mod Exchanging
mod HeadFields
mod HeadParts
mod LineFeeds
mod Printables
mod Stripped
mod Whole
