mod Members
mod Raising
mod Totals
mod Notes
mod Made
