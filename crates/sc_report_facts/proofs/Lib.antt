mod Cutting
mod Decimals
mod Quotes
mod ValueTexts
mod CommandLines
mod Each
mod Reports
pub mod Ints
