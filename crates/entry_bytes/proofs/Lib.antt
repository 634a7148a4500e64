-- The law of a format, `IsReadAs`, is proved once for each way to make a format (Formats), and then for changes (ChangeFormats) and duties
-- (DutyFormats) by putting those together. Finding has what a reader with a condition returns; Loops has the readers and writers of lists.
pub mod Formats
pub mod Finding
pub mod Loops
pub mod ChangeFinding
pub mod ChangeFormats
pub mod DutyFormats
