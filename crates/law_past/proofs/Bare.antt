-- What remembers a formula does so wherever it stands: of two programs that are the same but for places, both remember the same formulas.
use Rattle.std.proofs.Common.{◌≡◌, ℕ, Bool, true, false, ◌||◌, ◌&&◌, not, if◌then◌else◌, List, [], ◌∷◌, map, Option, None, Some, refl, sym, ap, ap₂, ◌∙◌, subst}
use Rattle.std.specs.Prelude.{option_map}
use Rattle.std.specs.Str.{bytes_eq}
use Rattle.hp_base.specs.declared.span.Span.{Span}
use Rattle.hp_tree.specs.declared.expr.Op2.{Op2}
use Rattle.hp_tree.specs.declared.expr.Op2.TheVariants.{And, Or}
use Rattle.hp_tree.specs.declared.program.Item.{Item}
use Rattle.hp_tree.specs.declared.program.Item.TheVariants.{TypeItem, NodeItem}
use Rattle.hp_tree.specs.Blocks.{Decl, Block, block, Eqns, no_eqn, more_eqns, Eqn, define, switch, reset, automaton, Arms, no_arm, more_arms, States, no_state, more_states}
use Rattle.hp_tree.specs.Expressions.{Expr, constant, variable, last_of, one, two, choose, pre, fby, arrow, when_is, merge, call}
use Rattle.hp_tree.specs.Meaning.{declares, is_among, defines, some_defines, arms_define, states_define, block_defines}
use Rattle.hp_tree.specs.Programs.{Contract, Node}
use Rattle.hp_tree.specs.Reaction.{Each}
use Rattle.hp_print.specs.Places.{nowhere, bare, bare_decl, bare_name, bare_block, bare_eqns, bare_eqn, bare_arms, bare_states, bare_contract, bare_program}
use Rattle.hp_past.specs.Remembering.{last_among, right_side, defined_as, Defines}
use Rattle.hp_past.specs.Remembered.{Remembered, once, historically, since, variable_of, Keeps}
use Rattle.law_past.proofs.Holding.{some_is, arguments_of, IsRight, keeps_by, by_keeps}
use Rattle.law_past.proofs.Replacing.{StillKeeps}
use Rattle.law_past.proofs.Alike.{Alike}

-- ---- names, declarations and equations

declares_bare : (ds : List Decl) (x : List ℕ) → declares (map bare_decl ds) x ≡ declares ds x
declares_bare [] x = refl
declares_bare (d ∷ ds) x = ap (λ b. bytes_eq d.name x || b) (declares_bare ds x)

among_bare : (ys : List (List ℕ × Span)) (x : List ℕ) → is_among (map bare_name ys) x ≡ is_among ys x
among_bare [] x = refl
among_bare (y ∷ ys) x = ap (λ b. bytes_eq y.0 x || b) (among_bare ys x)

mutual
  block_bare : (b : Block) (x : List ℕ) → block_defines (bare_block b) x ≡ block_defines b x
  block_bare (block ds es) x = ap₂ (λ a c. a && not c) (some_bare es x) (declares_bare ds x)

  some_bare : (es : Eqns) (x : List ℕ) → some_defines (bare_eqns es) x ≡ some_defines es x
  some_bare no_eqn x = refl
  some_bare (more_eqns e es) x = ap₂ ◌||◌ (defines_bare e x) (some_bare es x)

  defines_bare : (e : Eqn) (x : List ℕ) → defines (bare_eqn e) x ≡ defines e x
  defines_bare (define s ys e) x = among_bare ys x
  defines_bare (switch s e arms) x = arms_bare arms x
  defines_bare (reset s b e) x = block_bare b x
  defines_bare (automaton s qs) x = states_bare qs x

  arms_bare : (arms : Arms) (x : List ℕ) → arms_define (bare_arms arms) x ≡ arms_define arms x
  arms_bare no_arm x = refl
  arms_bare (more_arms c b s arms) x = ap₂ ◌||◌ (block_bare b x) (arms_bare arms x)

  states_bare : (qs : States) (x : List ℕ) → states_define (bare_states qs) x ≡ states_define qs x
  states_bare no_state x = refl
  states_bare (more_states f b until unless s qs) x = ap₂ ◌||◌ (block_bare b x) (states_bare qs x)

last_bare : (ds : List Decl) (x : List ℕ) → last_among (map bare_decl ds) x ≡ last_among ds x
last_bare [] x = refl
last_bare (d ∷ ds) x = ap (λ o. if bytes_eq d.name x then d.last else o) (last_bare ds x)

side_bare : (e : Eqn) (x : List ℕ) → right_side (bare_eqn e) x ≡ option_map bare (right_side e x)
side_bare (define s [] e) x = refl
side_bare (define s (y ∷ []) e) x = refl
side_bare (define s (y ∷ z ∷ ys) e) x = refl
side_bare (switch s e arms) x = refl
side_bare (reset s b e) x = refl
side_bare (automaton s qs) x = refl

either : (b : Bool) (o p : Option Expr) → (if b then option_map bare o else option_map bare p) ≡ option_map bare (if b then o else p)
either true o p = refl
either false o p = refl

defined_bare : (es : Eqns) (x : List ℕ) → defined_as (bare_eqns es) x ≡ option_map bare (defined_as es x)
defined_bare no_eqn x = refl
defined_bare (more_eqns e es) x =
    (λ j. if defines_bare e x j then side_bare e x j else defined_bare es x j) ∙ either (defines e x) (right_side e x) (defined_as es x)

-- ---- right sides

right_bare : (m : Remembered) (e : Expr) → IsRight m e → IsRight m (bare e)
right_bare (once n v) e r = (nowhere, nowhere, nowhere, ap bare r.3)
right_bare (historically n v) e r = (nowhere, nowhere, nowhere, ap bare r.3)
right_bare (since n1 n2 v) e r = (nowhere, nowhere, nowhere, nowhere, nowhere, ap bare r.5)

-- what an expression was, by what it is without its places
variable_from : (e : Expr) (s : Span) (x : List ℕ) → bare e ≡ variable s x → (t : Span) × (e ≡ variable t x)
variable_from (constant t c) s x h = absurd cc
variable_from (variable t y) s x h = let same : y ≡ x = cc in (t, ap (variable t) same)
variable_from (last_of t y) s x h = absurd cc
variable_from (one t op a) s x h = absurd cc
variable_from (two t op a b) s x h = absurd cc
variable_from (choose t a b c) s x h = absurd cc
variable_from (pre t a) s x h = absurd cc
variable_from (fby t a b) s x h = absurd cc
variable_from (arrow t a b) s x h = absurd cc
variable_from (when_is t a c y) s x h = absurd cc
variable_from (merge t y ps) s x h = absurd cc
variable_from (call t f inlined es) s x h = absurd cc

last_from : (e : Expr) (s : Span) (x : List ℕ) → bare e ≡ last_of s x → (t : Span) × (e ≡ last_of t x)
last_from (constant t c) s x h = absurd cc
last_from (variable t y) s x h = absurd cc
last_from (last_of t y) s x h = let same : y ≡ x = cc in (t, ap (last_of t) same)
last_from (one t op a) s x h = absurd cc
last_from (two t op a b) s x h = absurd cc
last_from (choose t a b c) s x h = absurd cc
last_from (pre t a) s x h = absurd cc
last_from (fby t a b) s x h = absurd cc
last_from (arrow t a b) s x h = absurd cc
last_from (when_is t a c y) s x h = absurd cc
last_from (merge t y ps) s x h = absurd cc
last_from (call t f inlined es) s x h = absurd cc

record WasTwo (e : Expr) (op : Op2) (p q : Expr) : Type 0 where
  place : Span
  left : Expr
  right : Expr
  is : e ≡ two place op left right
  left_is : bare left ≡ p
  right_is : bare right ≡ q

two_from : (e : Expr) (s : Span) (op : Op2) (p q : Expr) → bare e ≡ two s op p q → WasTwo e op p q
two_from (constant t c) s op p q h = absurd cc
two_from (variable t y) s op p q h = absurd cc
two_from (last_of t y) s op p q h = absurd cc
two_from (one t o a) s op p q h = absurd cc
two_from (two t o a b) s op p q h =
    let same : o ≡ op = cc in
    record { place = t; left = a; right = b; is = ap (λ z. two t z a b) same; left_is = cc; right_is = cc }
two_from (choose t a b c) s op p q h = absurd cc
two_from (pre t a) s op p q h = absurd cc
two_from (fby t a b) s op p q h = absurd cc
two_from (arrow t a b) s op p q h = absurd cc
two_from (when_is t a c y) s op p q h = absurd cc
two_from (merge t y ps) s op p q h = absurd cc
two_from (call t f inlined es) s op p q h = absurd cc

single_from : (e : Expr) (s x y : Span) (op : Op2) (n v : List ℕ) → bare e ≡ two s op (variable x n) (last_of y v) → (s x y : Span) × (e ≡ two s op (variable x n) (last_of y v))
single_from e s x y op n v h =
    let t = two_from e s op (variable x n) (last_of y v) h in
    let l = variable_from t.left x n t.left_is in
    let r = last_from t.right y v t.right_is in
    (t.place, l.0, r.0, t.is ∙ (λ j. two t.place op (l.1 j) (r.1 j)))

right_from : (m : Remembered) (e : Expr) → IsRight m (bare e) → IsRight m e
right_from (once n v) e r = single_from e r.0 r.1 r.2 Or n v r.3
right_from (historically n v) e r = single_from e r.0 r.1 r.2 And n v r.3
right_from (since n1 n2 v) e r =
    let t = two_from e r.0 Or (variable r.1 n2) (two r.2 And (variable r.3 n1) (last_of r.4 v)) r.5 in
    let l = variable_from t.left r.1 n2 t.left_is in
    let q = single_from t.right r.2 r.3 r.4 And n1 v t.right_is in
    (t.place, l.0, q.0, q.1, q.2, t.is ∙ (λ j. two t.place Or (l.1 j) (q.3 j)))

-- ---- blocks

defines_all : (b d : Block) → ((x : List ℕ) → Defines b x → Defines d x) → (xs : List (List ℕ)) → Each (Defines b) xs → Each (Defines d) xs
defines_all b d f [] h = tt
defines_all b d f (x ∷ xs) h = (f x h.0, defines_all b d f xs h.1)

to_bare : (b : Block) (m : Remembered) → Keeps b m → Keeps (bare_block b) m
to_bare (block ds es) m k =
    let by = keeps_by (block ds es) m k in
    let h = by.1 in
    by_keeps (bare_block (block ds es)) m (bare by.0) (record {
      is_right = right_bare m by.0 h.is_right;
      arguments = defines_all (block ds es) (bare_block (block ds es)) (λ x d. some_bare es x ∙ d) (arguments_of m) h.arguments;
      remembers = record {
        begins = last_bare ds (variable_of m) ∙ h.remembers.begins;
        defined = defined_bare es (variable_of m) ∙ ap (option_map bare) h.remembers.defined;
      };
    })

was_some : (o : Option Expr) (e : Expr) → option_map bare o ≡ Some e → (f : Expr) × (o ≡ Some f) × (bare f ≡ e)
was_some None e h = absurd cc
was_some (Some f) e h = (f, refl, some_is (bare f) e h)

from_bare : (b : Block) (m : Remembered) → Keeps (bare_block b) m → Keeps b m
from_bare (block ds es) m k =
    let by = keeps_by (bare_block (block ds es)) m k in
    let h = by.1 in
    let was = was_some (defined_as es (variable_of m)) by.0 (sym (defined_bare es (variable_of m)) ∙ h.remembers.defined) in
    by_keeps (block ds es) m was.0 (record {
      is_right = right_from m was.0 (subst (IsRight m) (sym was.2) h.is_right);
      arguments = defines_all (bare_block (block ds es)) (block ds es) (λ x d. sym (some_bare es x) ∙ d) (arguments_of m) h.arguments;
      remembers = record { begins = sym (last_bare ds (variable_of m)) ∙ h.remembers.begins; defined = was.1 };
    })

-- ---- programs

contract_was : (o : Option Contract) (d : Contract) → option_map bare_contract o ≡ Some d → (c : Contract) × (o ≡ Some c) × (bare_contract c ≡ d)
contract_was None d h = absurd cc
contract_was (Some c) d h = (c, refl, some_is (bare_contract c) d h)

abbrev bare_node : Node → Node
bare_node n = record {
  name = n.name;
  span = nowhere;
  inputs = map bare_decl n.inputs;
  outputs = map bare_decl n.outputs;
  contract = option_map bare_contract n.contract;
  body = bare_block n.body;
}

same_node : (n m : Node) → bare_node n ≡ bare_node m → StillKeeps n m
same_node n m e c has f k =
    let was = contract_was m.contract (bare_contract c) (sym (ap (λ (z : Node). z.contract) e) ∙ ap (option_map bare_contract) has) in
    let body : bare_block c.body ≡ bare_block was.0.body = ap (λ (z : Contract). z.body) (sym was.2) in
    (was.0, was.1, from_bare was.0.body f (subst (λ b. Keeps b f) body (to_bare c.body f k)))

node_of : Item → Node → Node
node_of (TypeItem t) n = n
node_of (NodeItem m) n = m

pub same_programs : (xs ys : List Item) → bare_program xs ≡ bare_program ys → Alike StillKeeps xs ys
same_programs [] [] e = tt
same_programs [] (y ∷ ys) e = absurd cc
same_programs (TypeItem t ∷ xs) [] e = absurd cc
same_programs (TypeItem t ∷ xs) (TypeItem u ∷ ys) e = same_programs xs ys (cc)
same_programs (TypeItem t ∷ xs) (NodeItem m ∷ ys) e = absurd cc
same_programs (NodeItem n ∷ xs) [] e = absurd cc
same_programs (NodeItem n ∷ xs) (TypeItem u ∷ ys) e = absurd cc
same_programs (NodeItem n ∷ xs) (NodeItem m ∷ ys) e =
    let nodes : bare_node n ≡ bare_node m = cc in
    ((sym (ap (λ (z : Node). z.name) nodes), same_node n m nodes), same_programs xs ys (cc))
