mod Columns
mod Digits
mod Kept
mod Passing
mod Placing
mod Runs
mod Scan
mod Turning
