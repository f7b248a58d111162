pub mod Views
pub mod ParameterViews
