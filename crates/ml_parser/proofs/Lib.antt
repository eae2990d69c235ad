pub mod EndsForms
