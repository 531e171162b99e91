-- Tasks and a capacity in one list of intervals.
use Rattle.std.proofs.Common.{◌≡◌, ◌∙◌, refl, ap, sym, subst, ℕ, zero, suc, ◌+◌, ◌*◌, ◌<◌, ◌≤◌, List, [], ◌∷◌, ◌++◌, length, map, get_or, set, take, arith}
use Rattle.std.proofs.lemmas.List.{get_or_default, length-map, map-append, take_all, take_more, take_more_set}
use Rattle.term_language.specs.Globals.{TaskEnds}
use Rattle.term_math.specs.Shown.{ends_of}
use Rattle.term_math.specs.declared.ends.Ends.{Ends}
use Rattle.term_windows.specs.Tasks.{task_ends_of, task_spans}
use Rattle.term_windows.specs.Windows.{spans}
use Rattle.term_windows.specs.declared.tasks.TaskRange.{TaskRange}
use Rattle.prop_cumul.specs.Profiles.{capacity_in, tasks_in}

-- behind three intervals
later_at : (x y z : Ends) (later : List Ends) (n k : ℕ) (d : Ends) → n ≡ k + 3 → get_or (x ∷ y ∷ z ∷ later) n d ≡ get_or later k d
later_at x y z later n k d is =
    let same : n ≡ suc (suc (suc k)) = omega (arith, is) in ap (λ (i : ℕ). get_or (x ∷ y ∷ z ∷ later) i d) same

task_by : (s d m x y z : Ends) → s ≡ x → d ≡ y → m ≡ z
    → (◌≡◌ {A = TaskEnds}) (record { start = ends_of s; duration = ends_of d; demand = ends_of m }) (record { start = ends_of x; duration = ends_of y; demand = ends_of z })
task_by s d m x y z starts durations demands = λ i. record { start = ends_of (starts i); duration = ends_of (durations i); demand = ends_of (demands i) }

task_from : (es : List Ends) (place n n1 n2 : ℕ) (s d m : Ends) (default : TaskEnds) → n ≡ 3 * place → n1 ≡ n + 1 → n2 ≡ n + 2 → n2 < length es → s ≡ get_or es n s → d ≡ get_or es n1 d
    → m ≡ get_or es n2 m → (◌≡◌ {A = TaskEnds}) (record { start = ends_of s; duration = ends_of d; demand = ends_of m }) (get_or (tasks_in (spans es)) place default)
task_from [] place n n1 n2 s d m default is is1 is2 below s_at d_at m_at = absurd (omega (arith, below))
task_from (x ∷ []) place n n1 n2 s d m default is is1 is2 below s_at d_at m_at = absurd (omega (arith, below, is2))
task_from (x ∷ y ∷ []) place n n1 n2 s d m default is is1 is2 below s_at d_at m_at = absurd (omega (arith, below, is2))
task_from (x ∷ y ∷ z ∷ later) zero n n1 n2 s d m default is is1 is2 below s_at d_at m_at =
    let first : n ≡ 0 = omega (arith, is) in
    let second : n1 ≡ 1 = omega (arith, is, is1) in
    let third : n2 ≡ 2 = omega (arith, is, is2) in
    task_by s d m x y z (s_at ∙ ap (λ (i : ℕ). get_or (x ∷ y ∷ z ∷ later) i s) first) (d_at ∙ ap (λ (i : ℕ). get_or (x ∷ y ∷ z ∷ later) i d) second)
    (m_at ∙ ap (λ (i : ℕ). get_or (x ∷ y ∷ z ∷ later) i m) third)
task_from (x ∷ y ∷ z ∷ later) (suc p) n n1 n2 s d m default is is1 is2 below s_at d_at m_at =
    task_from later p (3 * p) (3 * p + 1) (3 * p + 2) s d m default refl refl refl (omega (arith, below, is, is2)) (s_at ∙ later_at x y z later n (3 * p) s (omega (arith, is)))
    (d_at ∙ later_at x y z later n1 (3 * p + 1) d (omega (arith, is, is1))) (m_at ∙ later_at x y z later n2 (3 * p + 2) m (omega (arith, is, is2)))

pub task_there : (es : List Ends) (place : ℕ) (t : TaskRange) (d : Ends) (default : TaskEnds) → 3 * place + 2 < length es → t.start ≡ get_or es (3 * place) d
    → t.duration ≡ get_or es (3 * place + 1) d → t.demand ≡ get_or es (3 * place + 2) d → task_ends_of t ≡ get_or (tasks_in (spans es)) place default
task_there es place t d default below start duration demand =
    task_from es place (3 * place) (3 * place + 1) (3 * place + 2) t.start t.duration t.demand default refl refl refl below
    (start ∙ get_or_default es (3 * place) d t.start (omega (arith, below))) (duration ∙ get_or_default es (3 * place + 1) d t.duration (omega (arith, below)))
    (demand ∙ get_or_default es (3 * place + 2) d t.demand below)

pub capacity_there : (es : List Ends) (count n : ℕ) (c : Ends) → n ≡ 3 * count → n + 1 ≡ length es → c ≡ get_or es n c → ends_of c ≡ capacity_in (spans es)
capacity_there [] count n c is last at = absurd (omega (arith, last))
capacity_there (x ∷ []) count n c is last at =
    let first : n ≡ 0 = omega (arith, last) in ap ends_of (at ∙ ap (λ (i : ℕ). get_or (x ∷ []) i c) first)
capacity_there (x ∷ y ∷ []) zero n c is last at = absurd (omega (arith, is, last))
capacity_there (x ∷ y ∷ []) (suc p) n c is last at = absurd (omega (arith, is, last))
capacity_there (x ∷ y ∷ z ∷ later) zero n c is last at = absurd (omega (arith, is, last))
capacity_there (x ∷ y ∷ z ∷ later) (suc p) n c is last at =
    capacity_there later p (3 * p) c refl (omega (arith, is, last)) (at ∙ later_at x y z later n (3 * p) c (omega (arith, is)))

-- as many tasks as there is room for
pub many_tasks : (es : List Ends) (count : ℕ) → 3 * count + 1 ≡ length es → length (tasks_in (spans es)) ≡ count
many_tasks [] count is = absurd (omega (arith, is))
many_tasks (x ∷ []) count is = omega (arith, is)
many_tasks (x ∷ y ∷ []) count is = absurd (omega (arith, is))
many_tasks (x ∷ y ∷ z ∷ later) zero is = absurd (omega (arith, is))
many_tasks (x ∷ y ∷ z ∷ later) (suc p) is = ap suc (many_tasks later p (omega (arith, is)))

pub next_task : (es : List Ends) (tasks new : List TaskRange) (place : ℕ) (t : TaskRange) → 3 * length tasks + 1 ≡ length es → place < length tasks → new ≡ set tasks place t
    → ((d : TaskEnds) → task_ends_of t ≡ get_or (tasks_in (spans es)) place d) → task_spans (take place tasks) ≡ take place (tasks_in (spans es))
    → task_spans (take (place + 1) new) ≡ take (place + 1) (tasks_in (spans es))
next_task es tasks new place t room exists put is before =
    let many = many_tasks es (length tasks) room in
    ap (λ (ts : List TaskRange). task_spans (take (place + 1) ts)) put
    ∙ ap task_spans (take_more_set tasks place t exists)
    ∙ map-append task_ends_of (take place tasks) (t ∷ [])
    ∙ ap (λ (ts : List TaskEnds). ts ++ task_ends_of t ∷ []) before
    ∙ ap (λ (x : TaskEnds). take place (tasks_in (spans es)) ++ x ∷ []) (is (task_ends_of t))
    ∙ sym (take_more (tasks_in (spans es)) place (task_ends_of t) (omega (arith, many, exists)))

pub all_tasks : (es : List Ends) (tasks : List TaskRange) (i : ℕ) → 3 * length tasks + 1 ≡ length es → length tasks ≤ i → task_spans (take i tasks) ≡ take i (tasks_in (spans es))
    → task_spans tasks ≡ tasks_in (spans es)
all_tasks es tasks i room past before =
    let many = many_tasks es (length tasks) room in
    ap task_spans (sym (take_all i tasks past)) ∙ before ∙ take_all i (tasks_in (spans es)) (omega (arith, many, past))
