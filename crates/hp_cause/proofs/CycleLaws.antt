-- A cycle of a graph, with its controls dropped, is a cycle of reads, or of dependences.
use Rattle.std.proofs.Common.{◌≡◌, ◌⊎◌, inl, inr, ⊎_elim, ℕ, ◌<◌, List, [], ◌∷◌, ◌++◌, Bool, true, false, Option, None, Some, refl, sym, ap, subst, ◌∙◌, arith}
use Rattle.std.specs.Prelude.{⊤, All}
use Rattle.std.proofs.lemmas.List.Elements.{All-nil, All-cons, All-contains}
use Rattle.hp_tree.specs.Programs.{Node}
use Rattle.hp_tree.specs.Instant.{Place}
use Rattle.std.specs.Prelude.{nat_eq}
use Rattle.std.proofs.lemmas.Bool.Decides.{Decides-eqb}
use Rattle.hp_meaning.specs.Causal.Sources.{Sources, none, only, both, also, IsRead, IsSource}
use Rattle.hp_meaning.specs.Causal.Causality.{sources, Chain, DependsBy, IsCausal}
use Rattle.hp_meaning.specs.Causal.Clocked.{ClocksRight}
use Rattle.hp_meaning.proofs.CausalLemmas.Clocks.{clocks_make_no_cycle}
use Rattle.hp_graph.specs.Graphs.{IsEdge, Leads, IsCycle}
use Rattle.hp_cause.specs.Ends.{nth, ends_of_node}
use Rattle.hp_cause.specs.Facts.{Fact, stands, reads, depends, reads_in, dependences_in, vertices_in}
use Rattle.hp_cause.specs.Gathering.{of_node}
use Rattle.hp_cause.specs.Vertices.{number_node}
use Rattle.hp_cause.specs.Walked.{is_fresh, control_of_node, NamesDefinedOnce}
use Rattle.std.proofs.lemmas.List.{append-nil}
use Rattle.hp_cause.proofs.AgreeLaws.{Is}
use Rattle.hp_cause.proofs.DownLaws.{Down, node_down}
use Rattle.hp_cause.proofs.PlaceLaws.{node_placed}
use Rattle.hp_cause.proofs.SoundLaws.{Sound, node_sound}

abbrev pub choose_type : Bool → Type 0 → Type 0 → Type 0
choose_type true A B = A
choose_type false A B = B

module _ (In : Place → Sources → Type 0) (here : (p : Place) → In p (only p)) (first : (p : Place) (s t : Sources) → In p s → In p (both s t)) (second : (p : Place) (s t : Sources) → In p t → In p (both s t)) (parts : (p : Place) (s t : Sources) → In p (both s t) → In p s ⊎ In p t)
    (never : (p : Place) → In p none → ⊥) (Deps : Type 0) (beside : (p : Place) (s : Sources) → Deps → In p s → In p (also s)) (n : Node) (once : NamesDefinedOnce n) where
  -- at which places the vertex at a place is entered: a point at itself, a control at what it reads
  abbrev Entered : Place → Place → Type 0
  Entered p x = choose_type (is_fresh p) (In x (control_of_node n p)) (x ≡ p)

  -- at which places it is left: those that it reads
  abbrev Left : Place → Place → Type 0
  Left p x = choose_type (is_fresh p) (In x (control_of_node n p)) (In x (sources n p))

  abbrev Into : ℕ → Place → Type 0
  Into v x = (p : Place) × ((number_node n p ≡ Some v) × Entered p x)

  abbrev Outof : ℕ → Place → Type 0
  Outof v x = (p : Place) × ((number_node n p ≡ Some v) × Left p x)

  one_place : (p q : Place) (v : ℕ) → number_node n p ≡ Some v → number_node n q ≡ Some v → q ≡ p
  one_place p q v h g = let same : Some q ≡ Some p = sym (node_placed n q v g) ∙ node_placed n p v h in cc

  picked : (d e : Bool) (A B : Type 0) → d ≡ e → choose_type d A B → choose_type e A B
  picked d e A B g h = subst (λ c. choose_type c A B) g h

  unpicked : (d e : Bool) (A B : Type 0) → d ≡ e → choose_type e A B → choose_type d A B
  unpicked d e A B g h = subst (λ c. choose_type c A B) (sym g) h

  sound : Sound In here first second parts never Deps beside Into Outof (of_node n)
  sound =
      node_sound In here first second parts never Deps beside Into Outof n once
      (λ p v x h f i. picked (is_fresh p) false (In x (control_of_node n p)) (x ≡ p) f (subst (λ q. Entered q x) (one_place p i.0 v h i.1.0) i.1.1))
      (λ p v x h f i. (p, (h, unpicked (is_fresh p) false (In x (control_of_node n p)) (In x (sources n p)) f i)))
      (λ p v x h f i. picked (is_fresh p) true (In x (control_of_node n p)) (x ≡ p) f (subst (λ q. Entered q x) (one_place p i.0 v h i.1.0) i.1.1))
      (λ p v x h f i. (p, (h, unpicked (is_fresh p) true (In x (control_of_node n p)) (In x (sources n p)) f i)))

  -- the numbers that are those of no points
  abbrev IsControl : ℕ → Type 0
  IsControl v = (p : Place) → number_node n p ≡ Some v → is_fresh p ≡ true

  down : Down IsControl (of_node n)
  down = node_down IsControl n (λ p v h f c. let no : false ≡ true = sym f ∙ c p h in absurd cc)

  -- The vertex is the point at a place.
  abbrev pub IsPointAt : ℕ → Place → Type 0
  IsPointAt v p = (number_node n p ≡ Some v) × (is_fresh p ≡ false)

  pub either : (v : ℕ) → ((p : Place) × IsPointAt v p) ⊎ IsControl v
  either v = by (nth (ends_of_node n) v) (λ p h. node_placed n p v h)
    where
      fresh : (q : Place) → ((p : Place) → number_node n p ≡ Some v → Some q ≡ Some p) → (d : Bool) → is_fresh q ≡ d → (o : Option ℕ) → number_node n q ≡ o → (b : Bool) → (elim o as (λ _. Bool) [ None ↦ false | Some u ↦ nat_eq u v ]) ≡ b → ((p : Place) × IsPointAt v p) ⊎ IsControl v
      fresh q one true f o g b e = inr (λ p h. let same : q ≡ p = let s = one p h in cc in sym (ap is_fresh same) ∙ f)
      fresh q one false f (Some u) g true e = inl (q, (g ∙ ap Some ((Decides-eqb u v).0 e), f))
      fresh q one false f (Some u) g false e =
          inr (λ p h. let same : q ≡ p = let s = one p h in cc in let number : Some u ≡ Some v = sym g ∙ ap (number_node n) same ∙ h in let is : u ≡ v = cc in let t : nat_eq u v ≡ true = (Decides-eqb u v).1 is in let no : false ≡ true = sym e ∙ t in absurd cc)
      fresh q one false f None g b e = inr (λ p h. let same : q ≡ p = let s = one p h in cc in let number : None ≡ Some v = sym g ∙ ap (number_node n) same ∙ h in absurd cc)

      by : (o : Option Place) → ((p : Place) → number_node n p ≡ Some v → o ≡ Some p) → ((p : Place) × IsPointAt v p) ⊎ IsControl v
      by None one = inr (λ p h. let s = one p h in absurd cc)
      by (Some q) one = fresh q one (is_fresh q) refl (number_node n q) refl (elim (number_node n q) as (λ _. Bool) [ None ↦ false | Some u ↦ nat_eq u v ]) refl

  abbrev pub Links : Place → List Place → Place → Type 0
  Links p [] end = In end (sources n p)
  Links p (q ∷ qs) end = In q (sources n p) × Links q qs end

  -- the places of the points among some vertices
  abbrev pub place_of : (v : ℕ) → ((p : Place) × IsPointAt v p) ⊎ IsControl v → List Place
  place_of v (inl p) = p.0 ∷ []
  place_of v (inr c) = []

  abbrev pub points_among : List ℕ → List Place
  points_among [] = []
  points_among (v ∷ vs) = place_of v (either v) ++ points_among vs

  -- ---- along edges

  module _ (edges : List (ℕ × ℕ)) (leads : (a b : ℕ) → IsEdge edges a b → (x : Place) → Into b x → Outof a x) (falls : (a b : ℕ) → IsEdge edges a b → IsControl a → IsControl b → b < a) where
    -- What leaves at some places leaves at the first of these, and each of these reads the next.
    abbrev Goes : (Place → Type 0) → List Place → Place → Type 0
    Goes S [] x = S x
    Goes S (q ∷ qs) x = S q × Links q qs x

    goes_more : (S T : Place → Type 0) → ((y : Place) → S y → T y) → (ps : List Place) (x : Place) → Goes S ps x → Goes T ps x
    goes_more S T f [] x h = f x h
    goes_more S T f (q ∷ qs) x h = (f q h.0, h.1)

    links_on : (p : Place) (ps : List Place) (x : Place) → Goes (λ y. In y (sources n p)) ps x → Links p ps x
    links_on p [] x h = h
    links_on p (q ∷ qs) x h = h

    left_at : (v : ℕ) (p y : Place) → IsPointAt v p → Outof v y → In y (sources n p)
    left_at v p y s (q, (e, l)) = picked (is_fresh p) false (In y (control_of_node n p)) (In y (sources n p)) s.1 (subst (λ z. Left z y) (one_place p q v s.0 e) l)

    entered_at : (v : ℕ) (p : Place) → IsPointAt v p → Into v p
    entered_at v p s = (p, (s.0, unpicked (is_fresh p) false (In p (control_of_node n p)) (p ≡ p) s.1 refl))

    through : (v : ℕ) (y : Place) → IsControl v → Outof v y → Into v y
    through v y c (q, (e, l)) = (q, (e, unpicked (is_fresh q) true (In y (control_of_node n q)) (y ≡ q) (c q e) (picked (is_fresh q) true (In y (control_of_node n q)) (In y (sources n q)) (c q e) l)))

    step : (a b : ℕ) (ps : List Place) (x : Place) (e : ((p : Place) × IsPointAt b p) ⊎ IsControl b) → ((y : Place) → Into b y → Outof a y) → Goes (Outof b) ps x → Goes (Outof a) (place_of b e ++ ps) x
    step a b ps x (inl p) f h = (f p.0 (entered_at b p.0 p.1), links_on p.0 ps x (goes_more (Outof b) (λ y. In y (sources n p.0)) (λ y g. left_at b p.0 y p.1 g) ps x h))
    step a b ps x (inr c) f h = goes_more (Outof b) (Outof a) (λ y g. f y (through b y c g)) ps x h

    walk : (bs : List ℕ) (a end : ℕ) (x : Place) → Leads edges a bs end → Into end x → Goes (Outof a) (points_among bs) x
    walk [] a end x l i = leads a end l x i
    walk (b ∷ bs) a end x l i = step a b (points_among bs) x (either b) (leads a b l.0) (walk bs b end x l.1 i)

    pub cycle_links : (a : ℕ) (others : List ℕ) (p : Place) → IsPointAt a p → Leads edges a others a → Links p (points_among others) p
    cycle_links a others p s l = links_on p (points_among others) p (goes_more (Outof a) (λ y. In y (sources n p)) (λ y g. left_at a p y s g) (points_among others) p (walk others a a p l (entered_at a p s)))

    -- ---- controls alone make no cycle

    abbrev AllControls : List ℕ → Type 0
    AllControls [] = ⊤
    AllControls (v ∷ vs) = IsControl v × AllControls vs

    less : (bs : List ℕ) (a end : ℕ) → IsControl a → AllControls bs → IsControl end → Leads edges a bs end → end < a
    less [] a end c cs e l = falls a end l c e
    less (b ∷ bs) a end c cs e l = let f : b < a = falls a b l.0 c cs.0 in let g : end < b = less bs b end cs.0 cs.1 e l.1 in omega arith

    -- the first point among some vertices
    pub record Found (vs : List ℕ) : Type 0 where
      pub before : List ℕ
      pub vertex : ℕ
      pub behind : List ℕ
      pub split : vs ≡ before ++ vertex ∷ behind
      pub place : Place
      pub stands : IsPointAt vertex place

    search_in : (vs : List ℕ) → Found vs ⊎ AllControls vs
    search_in [] = inr tt
    search_in (v ∷ vs) = by (either v) (search_in vs)
      where
        by : ((p : Place) × IsPointAt v p) ⊎ IsControl v → Found vs ⊎ AllControls vs → Found (v ∷ vs) ⊎ AllControls (v ∷ vs)
        by (inl p) rest = inl (record { before = []; vertex = v; behind = vs; split = refl; place = p.0; stands = p.1 })
        by (inr c) (inl f) = inl (record { before = v ∷ f.before; vertex = f.vertex; behind = f.behind; split = ap (λ xs. v ∷ xs) f.split; place = f.place; stands = f.stands })
        by (inr c) (inr cs) = inr (c, cs)

    pub leads_split : (xs : List ℕ) (a b : ℕ) (ys : List ℕ) (end : ℕ) → Leads edges a (xs ++ b ∷ ys) end → Leads edges a xs b × Leads edges b ys end
    leads_split [] a b ys end l = l
    leads_split (x ∷ xs) a b ys end l = let t = leads_split xs x b ys end l.1 in ((l.0, t.0), t.1)

    pub leads_join : (ys : List ℕ) (b a : ℕ) (xs : List ℕ) (end : ℕ) → Leads edges b ys a → Leads edges a xs end → Leads edges b (ys ++ a ∷ xs) end
    leads_join [] b a xs end l m = (l, m)
    leads_join (y ∷ ys) b a xs end l m = (l.0, leads_join ys y a xs end l.1 m)

    -- A cycle of vertices has a point.
    pub found_in : (c : List ℕ) → IsCycle edges c → Found c
    found_in [] h = absurd h
    found_in (a ∷ others) h = by (either a) (search_in others)
      where
        by : ((p : Place) × IsPointAt a p) ⊎ IsControl a → Found others ⊎ AllControls others → Found (a ∷ others)
        by (inl p) found = record { before = []; vertex = a; behind = others; split = refl; place = p.0; stands = p.1 }
        by (inr c) (inl f) = record { before = a ∷ f.before; vertex = f.vertex; behind = f.behind; split = ap (λ xs. a ∷ xs) f.split; place = f.place; stands = f.stands }
        by (inr c) (inr cs) = let g : a < a = less others a a c cs c h.0 in absurd (omega arith)

    -- A cycle of vertices has a cycle of links.
    pub cycle_linked : (c : List ℕ) → IsCycle edges c → (p : Place) × ((between : List Place) × Links p between p)
    cycle_linked [] h = absurd h
    cycle_linked (a ∷ others) h = by (either a) (search_in others)
      where
        by : ((p : Place) × IsPointAt a p) ⊎ IsControl a → Found others ⊎ AllControls others → (p : Place) × ((between : List Place) × Links p between p)
        by (inl p) found = (p.0, (points_among others, cycle_links a others p.0 p.1 h.0))
        by (inr c) (inl f) =
            let t = leads_split f.before a f.vertex f.behind a (subst (λ xs. Leads edges a xs a) f.split h.0) in
            (f.place, (points_among (f.behind ++ a ∷ f.before), cycle_links f.vertex (f.behind ++ a ∷ f.before) f.place f.stands (leads_join f.behind f.vertex a f.before f.vertex t.1 t.0)))
        by (inr c) (inr cs) = let g : a < a = less others a a c cs c h.0 in absurd (omega arith)

  -- ---- the edges of facts

  abbrev Carries : ℕ × ℕ → Type 0
  Carries e = (x : Place) → Into e.1 x → Outof e.0 x

  abbrev Sinks : ℕ × ℕ → Type 0
  Sinks e = IsControl e.0 → IsControl e.1 → e.1 < e.0

  reads_carry : (facts : List Fact) → Sound In here first second parts never Deps beside Into Outof facts → All Carries (reads_in facts)
  reads_carry [] h = All-nil Carries
  reads_carry (stands p v ∷ facts) h = reads_carry facts h
  reads_carry (reads v u ∷ facts) h = All-cons Carries (v, u) (reads_in facts) h.0 (reads_carry facts h.1)
  reads_carry (depends v u ∷ facts) h = reads_carry facts h.1

  all_carry : Deps → (facts : List Fact) → Sound In here first second parts never Deps beside Into Outof facts → All Carries (dependences_in facts)
  all_carry d [] h = All-nil Carries
  all_carry d (stands p v ∷ facts) h = all_carry d facts h
  all_carry d (reads v u ∷ facts) h = All-cons Carries (v, u) (dependences_in facts) h.0 (all_carry d facts h.1)
  all_carry d (depends v u ∷ facts) h = All-cons Carries (v, u) (dependences_in facts) (h.0 d) (all_carry d facts h.1)

  reads_sink : (facts : List Fact) → Down IsControl facts → All Sinks (reads_in facts)
  reads_sink [] h = All-nil Sinks
  reads_sink (stands p v ∷ facts) h = reads_sink facts h.1
  reads_sink (reads v u ∷ facts) h = All-cons Sinks (v, u) (reads_in facts) h.0 (reads_sink facts h.1)
  reads_sink (depends v u ∷ facts) h = reads_sink facts h.1

  all_sink : (facts : List Fact) → Down IsControl facts → All Sinks (dependences_in facts)
  all_sink [] h = All-nil Sinks
  all_sink (stands p v ∷ facts) h = all_sink facts h.1
  all_sink (reads v u ∷ facts) h = All-cons Sinks (v, u) (dependences_in facts) h.0 (all_sink facts h.1)
  all_sink (depends v u ∷ facts) h = All-cons Sinks (v, u) (dependences_in facts) h.0 (all_sink facts h.1)

  pub around_links : (v : ℕ) (rest : List ℕ) (p : Place) → IsPointAt v p → Leads (reads_in (of_node n)) v rest v → Links p (points_among rest) p
  around_links v rest p s l =
      cycle_links (reads_in (of_node n)) (λ a b e. All-contains Carries (reads_in (of_node n)) (a, b) (reads_carry (of_node n) sound) e) (λ a b e. All-contains Sinks (reads_in (of_node n)) (a, b) (reads_sink (of_node n) down) e) v rest p s l

  all_points : (facts : List Fact) → Down IsControl facts → (v : ℕ) → Is v (vertices_in facts) → IsControl v → ⊥
  all_points [] h v i c = absurd i
  all_points (stands p u ∷ facts) h v i c = ⊎_elim (λ e. h.0 (subst IsControl e c)) (λ j. all_points facts h.1 v j c) i
  all_points (reads a b ∷ facts) h v i c = all_points facts h.1 v i c
  all_points (depends a b ∷ facts) h v i c = all_points facts h.1 v i c

  pub point_around : (c : List ℕ) → IsCycle (reads_in (of_node n)) c → (front : List ℕ) × ((v : ℕ) × ((rear : List ℕ) × ((p : Place) × ((c ≡ front ++ v ∷ rear) × IsPointAt v p))))
  point_around c h =
      let f = found_in (reads_in (of_node n)) (λ a b e. All-contains Carries (reads_in (of_node n)) (a, b) (reads_carry (of_node n) sound) e) (λ a b e. All-contains Sinks (reads_in (of_node n)) (a, b) (reads_sink (of_node n) down) e) c h in
      (f.before, (f.vertex, (f.behind, (f.place, (f.split, f.stands)))))

  pub read_cycle : (c : List ℕ) → IsCycle (reads_in (of_node n)) c → (p : Place) × ((between : List Place) × Links p between p)
  read_cycle c h =
      cycle_linked (reads_in (of_node n)) (λ a b e. All-contains Carries (reads_in (of_node n)) (a, b) (reads_carry (of_node n) sound) e) (λ a b e. All-contains Sinks (reads_in (of_node n)) (a, b) (reads_sink (of_node n) down) e) c h

  pub dependence_cycle : Deps → (c : List ℕ) → IsCycle (dependences_in (of_node n)) c → (p : Place) × ((between : List Place) × Links p between p)
  dependence_cycle d c h =
      cycle_linked (dependences_in (of_node n)) (λ a b e. All-contains Carries (dependences_in (of_node n)) (a, b) (all_carry d (of_node n) sound) e) (λ a b e. All-contains Sinks (dependences_in (of_node n)) (a, b) (all_sink (of_node n) down) e) c h

-- ---- reads, and all dependences

read_split : (n : Node) (once : NamesDefinedOnce n) (xs : List ℕ) (a b : ℕ) (ys : List ℕ) (end : ℕ) → Leads (reads_in (of_node n)) a (xs ++ b ∷ ys) end → Leads (reads_in (of_node n)) a xs b × Leads (reads_in (of_node n)) b ys end
read_split n once [] a b ys end l = l
read_split n once (x ∷ xs) a b ys end l = let t = read_split n once xs x b ys end l.1 in ((l.0, t.0), t.1)

read_join : (n : Node) (once : NamesDefinedOnce n) (ys : List ℕ) (b a : ℕ) (xs : List ℕ) (end : ℕ) → Leads (reads_in (of_node n)) b ys a → Leads (reads_in (of_node n)) a xs end → Leads (reads_in (of_node n)) b (ys ++ a ∷ xs) end
read_join n once [] b a xs end l m = (l, m)
read_join n once (y ∷ ys) b a xs end l m = (l.0, read_join n once ys y a xs end l.1 m)

module _ (n : Node) (once : NamesDefinedOnce n) where
  abbrev pub Kind : ℕ → Type 0
  Kind v = ((p : Place) × ((number_node n p ≡ Some v) × (is_fresh p ≡ false))) ⊎ ((p : Place) → number_node n p ≡ Some v → is_fresh p ≡ true)

  -- a point, or none
  pub kind_of : (v : ℕ) → Kind v
  kind_of v = either (λ x s. IsRead x s) (λ p. refl) (λ p s t i. inl i) (λ p s t i. inr i) (λ p s t i. i) (λ p i. i) ⊥ (λ p s d i. absurd d) n once v

  abbrev pub place_by : (v : ℕ) → Kind v → List Place
  place_by v (inl p) = p.0 ∷ []
  place_by v (inr c) = []

  abbrev pub among : List ℕ → List Place
  among [] = []
  among (v ∷ vs) = place_by v (kind_of v) ++ among vs

  among_is : (vs : List ℕ) → points_among (λ x s. IsRead x s) (λ p. refl) (λ p s t i. inl i) (λ p s t i. inr i) (λ p s t i. i) (λ p i. i) ⊥ (λ p s d i. absurd d) n once vs ≡ among vs
  unfolding kind_of
  among_is [] = refl
  among_is (v ∷ vs) = by (kind_of v) (among_is vs)
    where
      by : (k : Kind v) → points_among (λ x s. IsRead x s) (λ p. refl) (λ p s t i. inl i) (λ p s t i. inr i) (λ p s t i. i) (λ p i. i) ⊥ (λ p s d i. absurd d) n once vs ≡ among vs → place_of (λ x s. IsRead x s) (λ p. refl) (λ p s t i. inl i) (λ p s t i. inr i) (λ p s t i. i) (λ p i. i) ⊥ (λ p s d i. absurd d) n once v k ++ points_among (λ x s. IsRead x s) (λ p. refl) (λ p s t i. inl i) (λ p s t i. inr i) (λ p s t i. i) (λ p i. i) ⊥ (λ p s d i. absurd d) n once vs ≡ place_by v k ++ among vs
      by (inl p) rest = ap (λ ps. p.0 ∷ ps) rest
      by (inr c) rest = rest

  read_chain : (p : Place) (between : List Place) (end : Place) → Links (λ x s. IsRead x s) (λ p. refl) (λ p s t h. inl h) (λ p s t h. inr h) (λ p s t h. h) (λ p h. h) ⊥ (λ p s d h. absurd d) n once p between end → Chain n p between end
  read_chain p [] end h = h
  read_chain p (q ∷ qs) end h = (h.0, read_chain q qs end h.1)

  source_chain : (p : Place) (between : List Place) (end : Place) → Links (λ x s. IsSource x s) (λ p. refl) (λ p s t h. inl h) (λ p s t h. inr h) (λ p s t h. h) (λ p h. h) ⊤ (λ p s d h. h) n once p between end → DependsBy n p between end
  source_chain p [] end h = h
  source_chain p (q ∷ qs) end h = (h.0, source_chain q qs end h.1)

  -- From a point along a cycle of edges to itself there is a chain of reads.
  pub read_around : (v : ℕ) (rest : List ℕ) (p : Place) → number_node n p ≡ Some v → is_fresh p ≡ false → Leads (reads_in (of_node n)) v rest v → Chain n p (among rest) p
  read_around v rest p e f l =
      subst (λ ps. Chain n p ps p) (among_is rest)
      (read_chain p (points_among (λ x s. IsRead x s) (λ p. refl) (λ p s t i. inl i) (λ p s t i. inr i) (λ p s t i. i) (λ p i. i) ⊥ (λ p s d i. absurd d) n once rest) p (around_links (λ x s. IsRead x s) (λ p. refl) (λ p s t i. inl i) (λ p s t i. inr i) (λ p s t i. i) (λ p i. i) ⊥ (λ p s d i. absurd d) n once v rest p (e, f) l))

  -- No point stands at a control.
  pub no_control : (v : ℕ) → Is v (vertices_in (of_node n)) → ((p : Place) → number_node n p ≡ Some v → is_fresh p ≡ true) → ⊥
  no_control v i c = all_points (λ x s. IsRead x s) (λ p. refl) (λ p s t i. inl i) (λ p s t i. inr i) (λ p s t i. i) (λ p i. i) ⊥ (λ p s d i. absurd d) n once (of_node n) (down (λ x s. IsRead x s) (λ p. refl) (λ p s t i. inl i) (λ p s t i. inr i) (λ p s t i. i) (λ p i. i) ⊥ (λ p s d i. absurd d) n once) v i c

  -- A cycle that is split at a vertex leads from there around.
  pub leads_around : (c xs : List ℕ) (v : ℕ) (ys : List ℕ) → IsCycle (reads_in (of_node n)) c → c ≡ xs ++ v ∷ ys → Leads (reads_in (of_node n)) v (ys ++ xs) v
  leads_around c [] v ys h e = let g : IsCycle (reads_in (of_node n)) (v ∷ ys) = subst (IsCycle (reads_in (of_node n))) e h in subst (λ zs. Leads (reads_in (of_node n)) v zs v) (sym (append-nil ys)) g.0
  leads_around c (a ∷ xs) v ys h e =
      let g : IsCycle (reads_in (of_node n)) (a ∷ (xs ++ v ∷ ys)) = subst (IsCycle (reads_in (of_node n))) e h in
      let t = read_split n once xs a v ys a g.0 in
      read_join n once ys v a xs v t.1 t.0

  pub read_point : (c : List ℕ) → IsCycle (reads_in (of_node n)) c → (front : List ℕ) × ((v : ℕ) × ((rear : List ℕ) × ((p : Place) × ((c ≡ front ++ v ∷ rear) × ((number_node n p ≡ Some v) × (is_fresh p ≡ false))))))
  read_point c h = point_around (λ x s. IsRead x s) (λ p. refl) (λ p s t i. inl i) (λ p s t i. inr i) (λ p s t i. i) (λ p i. i) ⊥ (λ p s d i. absurd d) n once c h

  -- A causal node has no cycle of reads.
  pub causal_has_none : IsCausal n → (c : List ℕ) → IsCycle (reads_in (of_node n)) c → ⊥
  causal_has_none causal c h =
      let found = read_cycle (λ x s. IsRead x s) (λ p. refl) (λ p s t i. inl i) (λ p s t i. inr i) (λ p s t i. i) (λ p i. i) ⊥ (λ p s d i. absurd d) n once c h in
      causal found.0 found.1.0 (read_chain found.0 found.1.0 found.0 found.1.1)

  -- Where clocks are right, it has no cycle of dependences either.
  pub clocked_has_none : IsCausal n → ClocksRight n → (c : List ℕ) → IsCycle (dependences_in (of_node n)) c → ⊥
  clocked_has_none causal clocks c h =
      let found = dependence_cycle (λ x s. IsSource x s) (λ p. refl) (λ p s t i. inl i) (λ p s t i. inr i) (λ p s t i. i) (λ p i. i) ⊤ (λ p s d i. i) n once tt c h in
      clocks_make_no_cycle n causal clocks found.0 found.1.0 (source_chain found.0 found.1.0 found.0 found.1.1)
