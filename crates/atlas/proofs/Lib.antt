pub mod SheetCarriers
