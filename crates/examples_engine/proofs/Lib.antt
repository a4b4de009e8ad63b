mod ImageLemmas
mod ModuleLemmas
