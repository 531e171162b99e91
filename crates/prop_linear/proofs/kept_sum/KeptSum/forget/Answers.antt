use Rattle.prop_linear.proofs.kept_sum.KeptSum.forget.Goals as goal

pub returns-clause-places : goal.returns-clause-places
returns-clause-places c = λ count places. record { each = places.each; places = places.places; topped = places.topped }
