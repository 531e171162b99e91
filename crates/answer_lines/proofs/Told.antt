-- From the line of an answer back to its policy.
use Rattle.std.proofs.Common.{◌≡◌, ◌++◌, ℕ, ℤ, true, false, List, [], ◌∷◌, Option, Some, unwrap_or, codes, sym, ap, ◌∙◌}
use Rattle.std.proofs.lemmas.List.{append_assoc, append_cancel_left}
use Rattle.json.specs.Print.{escape}
use Rattle.json.specs.Text.{content, plain}
use Rattle.json.proofs.Printed.Strings.{content-escape}
use Rattle.serde_json.specs.Data.{Data, string, Members, no_members, member}
use Rattle.sopl_ast.specs.Accepted.{AcceptedModel}
use Rattle.sopl_ast.specs.Instances.{Problem}
use Rattle.sopl_ast.specs.Limits.{Limits}
use Rattle.sopl_ast.specs.Optimal.{denominator}
use Rattle.sopl_ast.specs.Policies.{Policy, IsPolicy}
use Rattle.sopl_ast.specs.Whole.{ModelTree}
use Rattle.policy_json.specs.Nodes.{policy_data}
use Rattle.policy_json.proofs.Printed.{accepted_json, first_in, later_in, later_of, members_in}
use Rattle.policy_json.proofs.Texts.{AreTold, policies_told, told_member, told_no_members, told_object, told_self}
use Rattle.answer_lines.specs.AnswerData.{Valued, bounded_data, found_object, fraction, line_of, optimal_data, optimal_object}

-- a string ends at its quote
told_string : (a b : List ℕ) → AreTold (string a) (string b)
told_string a b r s is =
    let inner : escape a ++ 34 ∷ r ≡ escape b ++ 34 ∷ s = sym (append_assoc (escape a) (34 ∷ []) r) ∙ ap later_of is ∙ append_assoc (escape b) (34 ∷ []) s in
    let same : a ≡ b = ap (λ (o : Option (List ℕ)). unwrap_or o []) (sym (content-escape a r) ∙ ap (content plain) inner ∙ content-escape b s) in
    (ap string same, ap later_of (append_cancel_left (escape a) (34 ∷ r) (34 ∷ s) (inner ∙ ap (λ x. escape x ++ 34 ∷ s) (sym same))))

-- a policy, and behind it its value
abbrev rest_of : Data → List ℕ → Members
rest_of policy value = member (codes "policy") policy (member (codes "value") (string value) no_members)

told_optimal : (d e : Data) (x y : List ℕ) → AreTold d e → AreTold (optimal_object d x) (optimal_object e y)
told_optimal d e x y policies =
    told_object (member (codes "answer") (string (codes "optimal")) (rest_of d x)) (member (codes "answer") (string (codes "optimal")) (rest_of e y))
    (told_member false (codes "answer") (string (codes "optimal")) (string (codes "optimal")) (rest_of d x) (rest_of e y) (told_self (string (codes "optimal")))
    (told_member true (codes "policy") d e (member (codes "value") (string x) no_members) (member (codes "value") (string y) no_members) policies
    (told_member true (codes "value") (string x) (string y) no_members no_members (told_string x y) (told_no_members true))))

told_found : (d e : Data) (b c x y : List ℕ) → AreTold d e → AreTold (found_object b d x) (found_object c e y)
told_found d e b c x y policies =
    told_object (member (codes "answer") (string (codes "bounded")) (member (codes "bound") (string b) (rest_of d x)))
    (member (codes "answer") (string (codes "bounded")) (member (codes "bound") (string c) (rest_of e y)))
    (told_member false (codes "answer") (string (codes "bounded")) (string (codes "bounded")) (member (codes "bound") (string b) (rest_of d x)) (member (codes "bound") (string c) (rest_of e y))
    (told_self (string (codes "bounded")))
    (told_member true (codes "bound") (string b) (string c) (rest_of d x) (rest_of e y) (told_string b c)
    (told_member true (codes "policy") d e (member (codes "value") (string x) no_members) (member (codes "value") (string y) no_members) policies
    (told_member true (codes "value") (string x) (string y) no_members no_members (told_string x y) (told_no_members true)))))

module _ (limits : Limits) (model : ModelTree) (problem : Problem) (accepted : AcceptedModel limits model problem) where
  pub optimal_lines : (p q : Policy) → IsPolicy problem p → IsPolicy problem q → (v w : ℤ) → line_of (optimal_data problem p v) ≡ line_of (optimal_data problem q w) → p ≡ q
  optimal_lines p q is_p is_q v w is =
      let told : optimal_data problem p v ≡ optimal_data problem q w =
      (told_optimal (policy_data problem p) (policy_data problem q) (fraction v (denominator problem)) (fraction w (denominator problem))
      (policies_told limits model problem accepted p q is_p is_q) (10 ∷ []) (10 ∷ []) is).0 in
      accepted_json limits model problem accepted p q is_p is_q (ap (λ d. first_in (later_in (members_in d))) told)

  pub bounded_lines : (f g : Valued) → IsPolicy problem f.policy → IsPolicy problem g.policy → (b c : ℤ)
      → line_of (bounded_data problem (Some f) b) ≡ line_of (bounded_data problem (Some g) c) → f.policy ≡ g.policy
  bounded_lines f g is_f is_g b c is =
      let told : bounded_data problem (Some f) b ≡ bounded_data problem (Some g) c =
      (told_found (policy_data problem f.policy) (policy_data problem g.policy) (fraction b (denominator problem)) (fraction c (denominator problem)) (fraction f.value (denominator problem))
      (fraction g.value (denominator problem)) (policies_told limits model problem accepted f.policy g.policy is_f is_g) (10 ∷ []) (10 ∷ []) is).0 in
      accepted_json limits model problem accepted f.policy g.policy is_f is_g (ap (λ d. first_in (later_in (later_in (members_in d)))) told)
