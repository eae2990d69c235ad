-- The laws of graphs.
pub use Rattle.inference_laws.specs.GraphLaws.{GraphLaws}
