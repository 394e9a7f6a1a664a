mod FileLaws
mod PlanLaws
mod LossLaws
mod FlashLaws
mod EndLaws
mod OutcomeLaws
mod TellingLaws
