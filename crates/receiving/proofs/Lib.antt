pub mod ReceivingGood
