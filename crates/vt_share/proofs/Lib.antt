mod LetterLemmas
mod AcceptLemmas
mod ExecuteLemmas
