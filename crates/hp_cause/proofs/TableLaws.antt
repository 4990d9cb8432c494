-- What tables say of names.
use Rattle.std.proofs.Common.{◌≡◌, ℕ, zero, suc, ◌+◌, ◌<◌, ◌≤◌, get_or, length, drop, Bool, true, false, ◌||◌, cond, if◌then◌else◌, List, [], ◌∷◌, ◌++◌, Option, None, Some, is_some, option_map, Bor, refl, sym, ap, ◌∙◌, arith}
use Rattle.std.specs.Str.{bytes_eq}
use Rattle.hp_tree.specs.declared.decl.Cons.{Cons}
use Rattle.hp_tree.specs.Blocks.{Decl, Block, block}
use Rattle.hp_tree.specs.Meaning.{declares, names_of as declared_names}
use Rattle.hp_tables.specs.declared.defining.layer.Layer.{Layer}
use Rattle.hp_tables.specs.Defining.Layers.{numbered, put_at, no_entry, says, says_numbers, says_seen, said, or_none, sight, own_of}
use Rattle.hp_tables.specs.Defining.Names.{listed, outer_names}
use Rattle.hp_cause.specs.Told.{names_seen}
use Rattle.hp_cause.specs.Facts.{Fact}
use Rattle.hp_cause.specs.Gathering.{Sight, over, seen_in, seen_declared, block_names, own_sight, links_of, of_links}
use Rattle.hp_cause.specs.Tables.{own_path, path_at, path_of}
use Rattle.hp_cause.proofs.GrowLaws.{drop-next, drop-end}
use Rattle.hp_tables.proofs.DefiningLemmas.LayerLaws.{first_said, said-last}

-- ---- declarations

declares_by : (d : Bool) (k : ℕ) (o : Option ℕ) → is_some (option_map Some (if d then Some k else o)) ≡ (d || is_some (option_map Some o))
declares_by true k o = refl
declares_by false k o = refl

pub declares-in : (k : ℕ) (ds : List Decl) (x : List ℕ) → is_some (says_numbers k (declared_names ds) x) ≡ declares ds x
declares-in k [] x = refl
declares-in k (d ∷ ds) x = declares_by (bytes_eq d.name x) k (numbered (k + 1) (declared_names ds) x) ∙ ap (λ r. bytes_eq d.name x || r) (declares-in (k + 1) ds x)

-- ---- the path of a declared name

numbered_next : (k : ℕ) (names : List (List ℕ)) (x : List ℕ) → numbered (k + 1) names x ≡ option_map suc (numbered k names x)
numbered_next k [] x = refl
numbered_next k (y ∷ ys) x = by (bytes_eq y x) (numbered (k + 1 + 1) ys x) (numbered (k + 1) ys x) (numbered_next (k + 1) ys x)
  where
    by : (d : Bool) (o p : Option ℕ) → o ≡ option_map suc p → (if d then Some (k + 1) else o) ≡ option_map suc (if d then Some k else p)
    by true o p h = let e : k + 1 ≡ suc k = omega arith in ap Some e
    by false o p h = h

abbrev pub path_by : List Decl → Option (Option ℕ) → List (Cons × List ℕ)
path_by ds None = []
path_by ds (Some None) = []
path_by ds (Some (Some i)) = path_at ds i

pub path-number : (ds : List Decl) (x : List ℕ) → path_by ds (says_numbers 0 (declared_names ds) x) ≡ path_of ds x
path-number [] x = refl
path-number (d ∷ ds) x = by (bytes_eq d.name x) (numbered 1 (declared_names ds) x) (numbered 0 (declared_names ds) x) (numbered_next 0 (declared_names ds) x) (path-number ds x)
  where
    later : (o : Option ℕ) → path_by (d ∷ ds) (option_map Some (option_map suc o)) ≡ path_by ds (option_map Some o)
    later None = refl
    later (Some i) = refl

    by : (b : Bool) (o p : Option ℕ) → o ≡ option_map suc p → path_by ds (option_map Some p) ≡ path_of ds x
        → path_by (d ∷ ds) (option_map Some (if b then Some 0 else o)) ≡ (if b then own_path d else path_of ds x)
    by true o p e h = refl
    by false o p e h = ap (λ q. path_by (d ∷ ds) (option_map Some q)) e ∙ later p ∙ h

pub path-there : (ds : List Decl) (i : ℕ) (d : Decl) → i < length ds → d ≡ get_or ds i d → own_path d ≡ path_at ds i
path-there [] i d h e = absurd (omega arith)
path-there (x ∷ ds) zero d h e = ap own_path e
path-there (x ∷ ds) (suc i) d h e = path-there ds i d (omega arith) e

pub path-beyond : (ds : List Decl) (i : ℕ) → length ds ≤ i → [] ≡ path_at ds i
path-beyond [] i h = refl
path-beyond (d ∷ ds) zero h = absurd (omega arith)
path-beyond (d ∷ ds) (suc i) h = path-beyond ds i (omega arith)

-- ---- what is seen inside

over_by : (ls : List Layer) (x : List ℕ) (o : Option ℕ) → or_none (first_said (option_map Some o) (said ls x)) ≡ over (λ y. o) (sight ls) x
over_by ls x None = refl
over_by ls x (Some j) = refl

pub sight-numbers : (ls : List Layer) (l : Layer) (k : ℕ) (names : List (List ℕ)) → says l ≡ says_numbers k names → sight (ls ++ l ∷ []) ≡ over (numbered k names) (sight ls)
sight-numbers ls l k names h =
    let one : (x : List ℕ) → sight (ls ++ l ∷ []) x ≡ over (numbered k names) (sight ls) x =
    λ x. ap or_none (said-last ls l x)
    ∙ ap (λ (f : List ℕ → Option (Option ℕ)). or_none (first_said (f x) (said ls x))) h
    ∙ over_by ls x (numbered k names x) in
    λ j x. one x j

own_by : (o : Option ℕ) → or_none (option_map Some o) ≡ o
own_by None = refl
own_by (Some j) = refl

pub own-numbers : (l : Layer) (k : ℕ) (names : List (List ℕ)) → says l ≡ says_numbers k names → own_of l ≡ numbered k names
own-numbers l k names h =
    let one : (x : List ℕ) → own_of l x ≡ numbered k names x = λ x. ap (λ (f : List ℕ → Option (Option ℕ)). or_none (f x)) h ∙ own_by (numbered k names x) in
    λ j x. one x j

pub sight-one : (l : Layer) (k : ℕ) (names : List (List ℕ)) → says l ≡ says_numbers k names → sight (l ∷ []) ≡ numbered k names
sight-one l k names h = own-numbers l k names h

seen_where : (see : Sight) (x : List ℕ) (d r : Bool) (o : Option (Option ℕ)) → o ≡ (if r then Some (see x) else None) → (if d then Some (see x) else o) ≡ (if d || r then Some (see x) else None)
seen_where see x true r o e = refl
seen_where see x false r o e = e

pub says_listed : (names : List (List ℕ)) (see : Sight) (x : List ℕ) → says_seen names see x ≡ (if listed names x then Some (see x) else None)
says_listed [] see x = refl
says_listed (y ∷ ys) see x = seen_where see x (bytes_eq y x) (listed ys x) (says_seen ys see x) (says_listed ys see x)

read_by : (ls : List Layer) (x : List ℕ) (s : Option ℕ) (d : Bool) → or_none (first_said (if d then Some s else None) (said ls x)) ≡ (if d then s else sight ls x)
read_by ls x s true = refl
read_by ls x s false = refl

pub sight-seen : (ls : List Layer) (l : Layer) (names : List (List ℕ)) (see : Sight) (x : List ℕ) → says l ≡ says_seen names see → sight (ls ++ l ∷ []) x ≡ (if listed names x then see x else sight ls x)
sight-seen ls l names see x h =
    ap or_none (said-last ls l x)
    ∙ ap (λ (f : List ℕ → Option (Option ℕ)). or_none (first_said (f x) (said ls x))) h
    ∙ ap (λ (o : Option (Option ℕ)). or_none (first_said o (said ls x))) (says_listed names see x)
    ∙ read_by ls x (see x) (listed names x)

pub listed_names : (ds : List Decl) (x : List ℕ) → listed (declared_names ds) x ≡ declares ds x
listed_names [] x = refl
listed_names (d ∷ ds) x = ap (λ r. bytes_eq d.name x || r) (listed_names ds x)

if_seen : (d : Bool) (s : Option ℕ) → or_none (if d then Some s else None) ≡ (if d then s else None)
if_seen true s = refl
if_seen false s = refl

pub sight-declared : (l : Layer) (ds : List Decl) (see : Sight) → says l ≡ says_seen (declared_names ds) see → sight (l ∷ []) ≡ seen_declared ds see
sight-declared l ds see h =
    let one : (x : List ℕ) → sight (l ∷ []) x ≡ seen_declared ds see x =
    λ x. ap (λ (f : List ℕ → Option (Option ℕ)). or_none (f x)) h
    ∙ ap or_none (says_listed (declared_names ds) see x)
    ∙ ap (λ d. or_none (if d then Some (see x) else None)) (listed_names ds x)
    ∙ if_seen (declares ds x) (see x) in
    λ j x. one x j

-- ---- what is entered

pub seen-by : (j : ℕ) (b : Block) (see : Sight) → over (numbered j (block_names b)) see ≡ seen_in j b see
seen-by j (block ds es) see = refl

pub links-by : (j : ℕ) (b : Block) (out : Sight) → of_links out (numbered j (block_names b)) (outer_names b) ≡ links_of j b out
links-by j (block ds es) out = refl

pub seen-entered : (old new : List Layer) (own : Layer) (j : ℕ) (b : Block) → new ≡ old ++ own ∷ [] → says own ≡ says_numbers j (block_names b) → sight new ≡ seen_in j b (sight old)
seen-entered old new own j b e h = ap sight e ∙ sight-numbers old own j (block_names b) h ∙ seen-by j b (sight old)

pub links-entered : (before after : List Fact) (outer : List Layer) (own : Layer) (j : ℕ) (b : Block) (put : List Fact → List Fact)
    → says own ≡ says_numbers j (block_names b) → after ≡ put (of_links (sight outer) (own_of own) (outer_names b)) → after ≡ put (links_of j b (sight outer))
links-entered before after outer own j b put h e =
    e ∙ ap (λ (s : Sight). put (of_links (sight outer) s (outer_names b))) (own-numbers own j (block_names b) h) ∙ ap put (links-by j b (sight outer))

pub body-seen : (values first : List Layer) (guide own : Layer) (ds : List Decl) (j : ℕ) (b : Block) → values ≡ first ++ own ∷ [] → first ≡ guide ∷ []
    → says guide ≡ says_numbers 0 (declared_names ds) → says own ≡ says_numbers j (block_names b) → sight values ≡ seen_in j b (numbered 0 (declared_names ds))
body-seen values first guide own ds j b e f g h =
    seen-entered first values own j b e h ∙ ap (λ (s : Sight). seen_in j b s) (ap sight f ∙ sight-one guide 0 (declared_names ds) g)

pub body-own : (values first : List Layer) (guide own : Layer) (j : ℕ) (b : Block) → values ≡ first ++ own ∷ [] → first ≡ guide ∷ [] → says own ≡ says_numbers j (block_names b) → sight (drop 1 values) ≡ own_sight j b
body-own values first guide own j b e f h = ap (λ ls. sight (drop 1 ls)) (e ∙ ap (λ ls. ls ++ own ∷ []) f) ∙ sight-one own j (block_names b) h
