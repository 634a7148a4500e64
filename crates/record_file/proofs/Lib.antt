pub mod RecordLemmas
mod AppendedLemmas
mod MomentLemmas
mod CrashLemmas
mod KeptLemmas
pub mod LookLemmas
mod HeadLemmas
mod FindLemmas
pub mod ScanLemmas
mod StartLemmas
mod StateLemmas
mod KindLemmas
mod TextLemmas
