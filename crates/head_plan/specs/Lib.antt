pub mod Plans
pub mod PlanText
