-- Terms that are added up.
use Rattle.std.proofs.Common.{◌≡◌, ◌∙◌, refl, ap, ℕ, false, Bool, List, [], ◌∷◌, ◌++◌, map}
use Rattle.term_language.specs.Terms as c
use Rattle.term_language.specs.Terms.{Term}
use Rattle.compile_laws.specs.Instances.{sum_of, terms_of}
use Rattle.compile_laws.specs.Subterms.{all_subterms, part_subterms, subterms}
use Rattle.sopl_term.specs.Built.{signed_of, term_ids}
use Rattle.term_nodes.specs.Built.{AllBelow, PartsBelow}
use Rattle.term_nodes.specs.Things.{Thing, parts_at, term_at, terms_at}
use Rattle.term_store.specs.declared.ids.TermId.{TermId}

-- parts of which none is subtracted, by their numbers and as terms
abbrev pub added : List TermId → List (Bool × TermId)
added ids = map (λ id. (false, id)) ids

abbrev parts_in : c.Terms → c.Parts
parts_in c.no_term = c.no_part
parts_in (c.term a later) = c.part false a (parts_in later)

pub added_exist : (n : ℕ) (ids : List TermId) → AllBelow n (term_ids ids) → PartsBelow n (signed_of (added ids))
added_exist n [] below = tt
added_exist n (id ∷ ids) below = (below.0, added_exist n ids below.1)

added_are : (things : List Thing) (ids : List TermId) → parts_at things (signed_of (added ids)) ≡ parts_in (terms_at things (term_ids ids))
added_are things [] = refl
added_are things (id ∷ ids) = ap (c.part false (term_at things id.0)) (added_are things ids)

sum_in : (xs : List Term) → parts_in (terms_of xs) ≡ sum_of xs
sum_in [] = refl
sum_in (x ∷ xs) = ap (c.part false x) (sum_in xs)

pub sum_stands : (things : List Thing) (ids : List TermId) (xs : List Term) → terms_at things (term_ids ids) ≡ terms_of xs → parts_at things (signed_of (added ids)) ≡ sum_of xs
sum_stands things ids xs are = added_are things ids ∙ (ap parts_in are ∙ sum_in xs)

pub sum_sizes : (xs : List Term) → all_subterms (terms_of xs) ≡ part_subterms (sum_of xs)
sum_sizes [] = refl
sum_sizes (x ∷ xs) = ap (λ l. subterms x ++ l) (sum_sizes xs)
