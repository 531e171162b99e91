-- Terms are there where that was tried of each.
use Rattle.std.proofs.Common.{◌≡◌, ℕ, nat_lt, Bool, true, ◌&&◌, List, [], ◌∷◌, subst}
use Rattle.std.specs.List.{list_all}
use Rattle.sopl_base.proofs.Tests.{nat_tested}
use Rattle.term_language.proofs.FormValues.{and_first, and_second}
use Rattle.term_nodes.specs.Built.{AllBelow, TasksBelow}
use Rattle.term_store.specs.Additions.{task_ids, term_ids}
use Rattle.term_store.specs.declared.ids.TermId.{TermId}

abbrev is_there : ℕ → TermId → Bool
is_there n x = nat_lt x.0 n

below : (n : ℕ) (xs : List TermId) → list_all (is_there n) xs ≡ true → AllBelow n (term_ids xs)
below n [] all = tt
below n (x ∷ xs) all = (
  nat_tested x.0 n (and_first (is_there n x) (list_all (is_there n) xs) all),
  below n xs (and_second (is_there n x) (list_all (is_there n) xs) all),
)

pub all_below : (n m : ℕ) (xs : List TermId) → n ≡ m → list_all (λ (x : TermId). nat_lt x.0 n) xs ≡ true → AllBelow m (term_ids xs)
all_below n m xs same all = subst (λ (k : ℕ). AllBelow k (term_ids xs)) same (below n xs all)

abbrev are_there : ℕ → TermId × TermId × TermId → Bool
are_there n t = nat_lt t.0.0 n && nat_lt t.1.0 n && nat_lt t.2.0 n

tasks_below : (n : ℕ) (xs : List (TermId × TermId × TermId)) → list_all (are_there n) xs ≡ true → TasksBelow n (task_ids xs)
tasks_below n [] all = tt
tasks_below n (t ∷ xs) all =
    let rest : Bool = list_all (are_there n) xs in
    let here = and_first (are_there n t) rest all in
    let two = and_first (is_there n t.0 && is_there n t.1) (is_there n t.2) here in (
      (
        nat_tested t.0.0 n (and_first (is_there n t.0) (is_there n t.1) two),
        (
          nat_tested t.1.0 n (and_second (is_there n t.0) (is_there n t.1) two),
          nat_tested t.2.0 n (and_second (is_there n t.0 && is_there n t.1) (is_there n t.2) here),
        ),
      ),
      tasks_below n xs (and_second (are_there n t) rest all),
    )

pub all_tasks_below : (n m : ℕ) (xs : List (TermId × TermId × TermId)) → n ≡ m → list_all (λ (t : TermId × TermId × TermId). nat_lt t.0.0 n && nat_lt t.1.0 n && nat_lt t.2.0 n) xs ≡ true
    → TasksBelow m (task_ids xs)
all_tasks_below n m xs same all = subst (λ (k : ℕ). TasksBelow k (task_ids xs)) same (tasks_below n xs all)
