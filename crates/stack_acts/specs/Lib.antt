pub mod StackLaws
pub mod StackViews
