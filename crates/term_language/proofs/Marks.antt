-- Marks of definedness, alone and of two.
use Rattle.std.proofs.Common.{◌≡◌, true, refl}
use Rattle.term_language.specs.Marks.{both, is_always}
use Rattle.term_language.specs.declared.answers.Defined.{Defined}
use Rattle.term_language.specs.declared.answers.Defined.TheVariants.{Never, Maybe, Always}

pub both_always : (m : Defined) → both m Always ≡ m
both_always Never = refl
both_always Maybe = refl
both_always Always = refl

pub both_never : (m : Defined) → both m Never ≡ Never
both_never Never = refl
both_never Maybe = refl
both_never Always = refl

pub both_grouped : (m n k : Defined) → both (both m n) k ≡ both m (both n k)
both_grouped Never n k = refl
both_grouped Maybe Never k = refl
both_grouped Maybe Maybe Never = refl
both_grouped Maybe Maybe Maybe = refl
both_grouped Maybe Maybe Always = refl
both_grouped Maybe Always k = refl
both_grouped Always n k = refl

pub both_not_never : (m n : Defined) → ¬ m ≡ Never → ¬ n ≡ Never → ¬ both m n ≡ Never
both_not_never Never n first second is = first refl
both_not_never Maybe Never first second is = second refl
both_not_never Maybe Maybe first second is = cc
both_not_never Maybe Always first second is = cc
both_not_never Always n first second is = second is

pub is_always_of : (m : Defined) → is_always m ≡ true → m ≡ Always
is_always_of Never is = cc
is_always_of Maybe is = cc
is_always_of Always is = refl
