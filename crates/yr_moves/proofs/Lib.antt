mod MarkLemmas
mod MemberLemmas
mod VisitLemmas
mod PassLemmas
mod SearchLemmas
mod EndLemmas
mod OccursLemmas
mod WalkLemmas
