pub mod SendingGood
