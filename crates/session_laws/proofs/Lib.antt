mod SameLemmas
mod StepLemmas
mod ReplayLemmas
mod AnswerLemmas
mod SessionLemmas
