pub mod LogMaker
pub mod ControllerCore
pub mod PlanText
