pub mod Activations
pub mod Chains
pub mod Handlers
pub mod FrameOf
pub mod Lending
pub mod HandlerExamples
