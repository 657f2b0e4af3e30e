-- Laws of the firmware's calls; the proof of a function stands in the folder of its module.
pub mod Only
