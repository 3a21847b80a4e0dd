-- The handover examples: by computation on the journal, and from there to the units by `agreement`.
use mathlib.Core.Path.{◌≡◌, refl, sym, ap, ap₂, ◌∙◌, subst}
use mathlib.Core.Bool.{Bool, true, false, ◌&&◌, ◌||◌, cond, false≢true}
use mathlib.Core.List.{List, [], ◌∷◌, ◌++◌, map}
use Prim.Native.Nat.{ℕ, zero, suc, ◌-◌, ◌≤◌, min, max}
use native.Mathlib.Omega.{arith}
use borrow.Author.Tests.{eqb-true, eq-eqb, leb-true, le-leb, leb-false}
use lib.ListN.{length, take, replicate, length-append}
use lib.Dec.{eqb, leb}
use Rattle.model.specs.declared.Command.{Command}
use Rattle.model.specs.declared.Command.TheVariants.{Lend}
use Rattle.model.specs.Commands.{arguments_of}
use Rattle.bits.specs.Sets.{any, all, keep, count, add, tabulate}
use Rattle.bits.specs.Bits.{bit, members}
use Rattle.model.specs.Answers.{Found, asked, table, flat}
use Rattle.model.specs.Journal.{step, run, Loan, Journal, grant, same_grant, same_loan, carries, fresh, lowest}
use Rattle.layouts.specs.Layouts.{lists, rows}
use Rattle.model.specs.Chain.{granted, lent, Meets, JournalChain}
use Rattle.agreement.specs.Agreement.{Units, Agrees, Answers, Follows, called, fresh_units, flat_step, fed}
use Rattle.agreement.specs.Examples.{Route, route, start, extends, onward, extended, serves, routes, routes_to, Question, asks, checks, Said, number, swept, passed, no, flat_yes, yes, highest, shortest, best, told, said, flat_said, Example, base, lent_for2, three_depths, depth7, eight_persons, examples, outcome, flat_outcome, calls, said_of, chain_said, chain_outcome, unit_said, list_outcome, row_outcome}
use Rattle.bits.proofs.Sets.{all_true, all_mono, all_keep, all_in, fst, snd, both, or_left, or_right, by_cases, either, found, any_same, any-keep, any-map, eqb_self}
use Rattle.model.proofs.Invariant.{same_loan_lem, same_grant_lem, loan_self, grant_self}
use Rattle.model.proofs.Chain.{given-length}
use Rattle.model.proofs.Steps.{kept_run, kept_fresh}
use Rattle.agreement.proofs.Agreement.{agreement, journal_short}

-- E1 to E12, and the rows of document 02's requests
pub examples_hold : map outcome examples ≡ map (λ (e : Example). e.expected) examples
unfolding fresh base lent_for2 three_depths depth7 eight_persons carries examples any all keep count add tabulate members bit lowest extended routes routes_to highest shortest best
examples_hold = refl

-- a lend whose last shift is past is answered 13, with 1,024 loans standing or not: 13 comes before 10
pub thirteen_before_ten : (edits back full : Bool)
    → table (record { by = true; on = true; to = true; members = true; edits = edits; back = back; past = true; full = full })
    (arguments_of (Lend 3 0 9 1 1 1)) ≡ 13
thirteen_before_ten edits back full = refl

-- ---- equal routes
unfoldable pub same_list : List ℕ → List ℕ → Bool
same_list [] [] = true
same_list [] (y ∷ ys) = false
same_list (x ∷ xs) [] = false
same_list (x ∷ xs) (y ∷ ys) = eqb x y && same_list xs ys

pub same-list : (xs ys : List ℕ) → same_list xs ys ≡ true → xs ≡ ys
unfolding same_list
same-list [] [] e = refl
same-list [] (y ∷ ys) e = absurd (false≢true e)
same-list (x ∷ xs) [] e = absurd (false≢true e)
same-list (x ∷ xs) (y ∷ ys) e =
    ap₂ (λ (z : ℕ) (zs : List ℕ). z ∷ zs) (eqb-true x y (fst (eqb x y) (same_list xs ys) e))
    (same-list xs ys (snd (eqb x y) (same_list xs ys) e))

list_self : (xs : List ℕ) → same_list xs xs ≡ true
unfolding same_list
list_self [] = refl
list_self (x ∷ xs) = both (eqb_self x) (list_self xs)

abbrev pub same_route : Route → Route → Bool
same_route t u = same_list t.persons u.persons && eqb t.last u.last && eqb t.allowance u.allowance

same_route_lem : (t u : Route) → same_route t u ≡ true → t ≡ u
same_route_lem t u e =
    let a : t.persons ≡ u.persons = same-list t.persons u.persons (fst _ _ (fst _ (eqb t.allowance u.allowance) e)) in
    let b : t.last ≡ u.last = search (fst, snd, eqb-true) in
    let c : t.allowance ≡ u.allowance = search (fst, snd, eqb-true) in
    let r : route t.persons t.last t.allowance ≡ route u.persons u.last u.allowance = cc in
    r

route_self : (t : Route) → same_route t t ≡ true
route_self t = both (both (list_self t.persons) (eqb_self t.last)) (eqb_self t.allowance)

any_append : {A : Type 0} (p : A → Bool) (xs ys : List A) → any p (xs ++ ys) ≡ any p xs || any p ys
unfolding any
any_append p [] ys = refl
any_append p (x ∷ xs) ys = ap (λ b. p x || b) (any_append p xs ys) ∙ assoc (p x) (any p xs) (any p ys)
  where
    assoc : (a b c : Bool) → a || (b || c) ≡ (a || b) || c
    assoc true b c = refl
    assoc false b c = refl

-- ---- a route more by a loan
extended_in : (l : Loan) (t : Route) (ls : List Loan) (ts : List Route) → any (same_loan l) ls ≡ true → any (same_route t) ts ≡ true
    → extends l t ≡ true
    → any (same_route (onward l t)) (extended ls ts) ≡ true
unfolding extended any
extended_in l t [] ts h k e = h
extended_in l t (m ∷ ls) ts h k e =
    any_append (same_route (onward l t)) (map (onward m) (keep (extends m) ts)) (extended ls ts)
    ∙ either (same_loan l m) (any (same_loan l) ls) h
    (λ q. or_left _ _ (any-map (same_route (onward l t)) (onward m) (keep (extends m) ts)
    ∙ any-keep (λ u. same_route (onward l t) (onward m u)) (extends m) ts
    ∙ any_same (λ u. extends m u && same_route (onward l t) (onward m u)) same_route same_route_lem t ts k
    (subst (λ x. extends x t && same_route (onward l t) (onward x t) ≡ true) (same_loan_lem l m q) (both e (route_self (onward l t))))))
    (λ q. or_right (any (same_route (onward l t)) (map (onward m) (keep (extends m) ts))) _ (extended_in l t ls ts q k e))

pub record Extended (ls : List Loan) (ts : List Route) (t : Route) : Type 0 where
  pub by : Loan
  pub from : Route
  pub in_loans : any (same_loan by) ls ≡ true
  pub in_routes : any (same_route from) ts ≡ true
  pub follows : extends by from ≡ true
  pub gives : t ≡ onward by from

extended_out : (t : Route) (ls : List Loan) (ts : List Route) → any (same_route t) (extended ls ts) ≡ true → Extended ls ts t
unfolding extended any
extended_out t [] ts h = absurd (false≢true h)
extended_out t (m ∷ ls) ts h =
    either (any (same_route t) (map (onward m) (keep (extends m) ts))) (any (same_route t) (extended ls ts))
    (sym (any_append (same_route t) (map (onward m) (keep (extends m) ts)) (extended ls ts)) ∙ h)
    (λ q. let f = found (λ u. extends m u && same_route t (onward m u)) same_route route_self ts
    (sym (any-keep (λ u. same_route t (onward m u)) (extends m) ts) ∙ sym (any-map (same_route t) (onward m) (keep (extends m) ts)) ∙ q) in
    record {
      by = m;
      from = f.0;
      in_loans = or_left (same_loan m m) (any (same_loan m) ls) (loan_self m);
      in_routes = f.2;
      follows = fst (extends m f.0) (same_route t (onward m f.0)) f.1;
      gives = same_route_lem t (onward m f.0) (snd (extends m f.0) (same_route t (onward m f.0)) f.1);
    })
    (λ q. let x = extended_out t ls ts q in
    record {
      by = x.by;
      from = x.from;
      in_loans = or_right (same_loan x.by m) (any (same_loan x.by) ls) x.in_loans;
      in_routes = x.in_routes;
      follows = x.follows;
      gives = x.gives;
    })

-- ---- the routes of a journal are its chains
module _ (j : Journal) (o r : ℕ) where
  on_key : (i k : ℕ) → eqb i o && eqb k r ≡ true → (i ≡ o) × (k ≡ r)
  on_key i k e = search (fst, snd, eqb-true)

  -- each route is a chain
  route-chain : (k : ℕ) (t : Route) → any (same_route t) (routes j o r k) ≡ true → JournalChain j o r t.persons t.last t.allowance
  unfolding routes
  route-chain zero t h =
      let f = found (λ g. (eqb g.item o && eqb g.right r) && same_route t (start g)) same_grant grant_self j.grants
      (sym (any-keep (λ g. same_route t (start g)) (λ g. eqb g.item o && eqb g.right r) j.grants)
      ∙ sym (any-map (same_route t) start (keep (λ g. eqb g.item o && eqb g.right r) j.grants)) ∙ h) in
      let g = f.0 in
      let k = on_key f.0.item f.0.right (fst (eqb f.0.item o && eqb f.0.right r) _ f.1) in
      let e : t ≡ start f.0 = same_route_lem t (start f.0) (snd (eqb f.0.item o && eqb f.0.right r) _ f.1) in
      let s : any (same_grant (grant f.0.person o r f.0.depth)) j.grants ≡ true
      = rw (k.0, k.1) at (let w : any (same_grant (grant f.0.person f.0.item f.0.right f.0.depth))
      j.grants ≡ true = f.2 in w) in
      subst (λ u. JournalChain j o r u.persons u.last u.allowance) (sym e) (granted s)
  route-chain (suc k) t h =
      let x = extended_out t (keep (serves j o r) j.loans) (routes j o r k) h in
      let f = found (λ l. serves j o r l && same_loan x.by l) same_loan loan_self j.loans
      (sym (any-keep (same_loan x.by) (serves j o r) j.loans) ∙ x.in_loans) in
      let q : x.by ≡ f.0 = same_loan_lem x.by f.0 (snd (serves j o r f.0) _ f.1) in
      let u : serves j o r f.0 ≡ true = fst (serves j o r f.0) _ f.1 in
      let m = on_key f.0.item f.0.right (fst _ (carries j.shift f.0.last) u) in
      let c = route-chain k x.from x.in_routes in
      let e : x.from.last ≡ x.by.lender = eqb-true _ _ (fst (eqb x.from.last x.by.lender) _ x.follows) in
      let a : 1 ≤ x.from.allowance = leb-true 1 _ (snd (eqb x.from.last x.by.lender) _ x.follows) in
      let b : x.from.allowance ≡ suc (x.from.allowance - 1) = omega arith in
      let c' : JournalChain j o r x.from.persons x.by.lender (suc (x.from.allowance - 1))
      = moved x.from.persons e b c in
      subst (λ u. JournalChain j o r u.persons u.last u.allowance) (sym x.gives)
      (lent x.by (
        ap (λ l. any (same_loan l) j.loans) q ∙ f.2,
        ap (λ (l : Loan). l.item) q ∙ m.0,
        ap (λ (l : Loan). l.right) q
            ∙ m.1,
        ap (λ (l : Loan). carries j.shift l.last) q
            ∙ snd (eqb f.0.item o && eqb f.0.right r) _ u,
      ) c')
    where
      moved : (ps : List ℕ) {p q a b : ℕ} → p ≡ q → a ≡ b → JournalChain j o r ps p a → JournalChain j o r ps q b
      moved ps {p} {q} {a} {b} e f c = subst (λ (n : ℕ). JournalChain j o r ps q n) f (subst (λ (n : ℕ). JournalChain j o r ps n a) e c)

  -- and each chain is a route
  chain-route : {ps : List ℕ} {p a : ℕ} → JournalChain j o r ps p a → (k : ℕ) × (length ps ≡ suc k)
      × (any (same_route (route ps p a)) (routes j o r k) ≡ true)
  unfolding routes
  chain-route (granted {p} {e} h) = (
    0,
    refl,
    any-map (same_route (start (grant p o r e))) start (keep (λ g. eqb g.item o && eqb g.right r) j.grants)
        ∙ any-keep (λ g. same_route (start (grant p o r e)) (start g)) (λ g. eqb g.item o && eqb g.right r) j.grants
        ∙ any_same (λ g. (eqb g.item o && eqb g.right r) && same_route (start (grant p o r e)) (start g)) same_grant same_grant_lem
        (grant p o r e) j.grants h
        (both (both (eqb_self o) (eqb_self r)) (route_self (start (grant p o r e)))),
  )
  chain-route (lent {ps} {a} l s c) =
      let x = chain-route c in
      let in-key : any (same_loan l) (keep (serves j o r) j.loans) ≡ true
      = any-keep (same_loan l) (serves j o r) j.loans
      ∙ any_same (λ m. serves j o r m && same_loan l m) same_loan same_loan_lem l j.loans s.0
      (both (both (both (eq-eqb l.item o s.1) (eq-eqb l.right r s.2)) s.3) (loan_self l)) in (
        suc x.0,
        simp length-append (omega (arith, x.1)),
        subst (λ (b : ℕ). any (same_route (route (ps ++ (l.borrower ∷ [])) l.borrower (min b l.depth)))
            (routes j o r (suc x.0)) ≡ true)
            (let z : suc a - 1 ≡ a = omega arith in z)
            (extended_in l (route ps l.lender (suc a)) _ (routes j o r x.0) in-key x.2
            (both (eqb_self l.lender) (le-leb 1 (suc a) (omega arith)))),
      )

  -- a chain has at most seven loans
  in_up_to : (p : Route → Bool) (k n : ℕ) → k ≤ n → any p (routes j o r k) ≡ true → any p (routes_to j o r n) ≡ true
  unfolding routes_to
  in_up_to p k zero h e = subst (λ (m : ℕ). any p (routes j o r m) ≡ true) (let z : k ≡ 0 = omega arith in z) e
  in_up_to p k (suc n) h e =
      any_append p (routes_to j o r n) (routes j o r (suc n))
      ∙ by_cases (leb k n) (λ t. or_left (any p (routes_to j o r n)) (any p (routes j o r (suc n))) (in_up_to p k n (leb-true k n t) e))
      (λ t. let z : k ≡ suc n = omega (arith, leb-false k n t) in
      or_right (any p (routes_to j o r n)) (any p (routes j o r (suc n))) (subst (λ (m : ℕ). any p (routes j o r m) ≡ true) z e))

  up_to-chain : (n : ℕ) (t : Route) → any (same_route t) (routes_to j o r n) ≡ true → JournalChain j o r t.persons t.last t.allowance
  unfolding routes_to
  up_to-chain zero t h = route-chain zero t h
  up_to-chain (suc n) t h =
      either (any (same_route t) (routes_to j o r n)) (any (same_route t) (routes j o r (suc n)))
      (sym (any_append (same_route t) (routes_to j o r n) (routes j o r (suc n))) ∙ h) (up_to-chain n t) (route-chain (suc n) t)

-- ---- what the best of the routes says is what `Meets` says, where one of the best is the shortest
highest_above : (t : Route) (ts : List Route) → any (same_route t) ts ≡ true → t.allowance ≤ highest ts
unfolding highest any
highest_above t [] h = absurd (false≢true h)
highest_above t (u ∷ ts) h =
    either (same_route t u) (any (same_route t) ts) h (λ q. let e = ap (λ (x : Route). x.allowance) (same_route_lem t u q) in omega arith)
    (λ q. let k = highest_above t ts q in omega arith)

highest_is : (t : Route) (ts : List Route) → (u : Route) × (any (same_route u) (t ∷ ts) ≡ true) × (u.allowance ≡ highest (t ∷ ts))
unfolding highest any
highest_is t [] = (t, or_left (same_route t t) false (route_self t), omega arith)
highest_is t (u ∷ ts) =
    let k = highest_is u ts in
    by_cases (leb (highest (u ∷ ts)) t.allowance)
    (λ l. (t, or_left (same_route t t) _ (route_self t), omega (arith, leb-true (max u.allowance (highest ts)) t.allowance l)))
    (λ l. (k.0, or_right (same_route k.0 t) _ k.1, omega (arith, k.2, leb-false (max u.allowance (highest ts)) t.allowance l)))

-- one of the best chains is the shortest, or none is there
abbrev single : List (List ℕ) → Bool
single [] = false
single (ps ∷ []) = true
single (ps ∷ qs ∷ rest) = false

abbrev decided : Said → Bool
decided (number n) = true
decided (swept n k) = true
decided passed = true
decided no = true
decided flat_yes = true
decided (yes a ps) = single ps

module _ {C : List ℕ → ℕ → Type 0} {f : Found} {buffer : List ℕ} (m : Meets C f buffer) (p : ℕ) where
  -- the chain that is given is among the shortest of the best routes
  given_in : (ts : List Route) → ((t : Route) → any (same_route t) ts ≡ true → C t.persons t.allowance) → f.yes ≡ true
      → any (same_route (route (take f.persons buffer) p f.depth)) ts ≡ true → f.depth ≡ highest ts
      → any (same_list (take f.persons buffer))
      (map (λ (x : Route). x.persons) (shortest (keep (λ x. eqb x.allowance (highest ts)) ts))) ≡ true
  unfolding shortest
  given_in ts from y shown e =
      let via : List ℕ = take f.persons buffer in
      let isBest : Route → Bool = λ x. eqb x.allowance (highest ts) in
      let isShort : Route → Bool = λ x. all (λ (t : Route). leb (length x.persons) (length t.persons)) (keep isBest ts) in
      let short : isShort (route via p f.depth) ≡ true
      = all_mono (λ (x : Route). any (same_route x) ts && isBest x) (λ (x : Route). leb (length via) (length x.persons)) (keep isBest ts)
      (all_keep (λ (x : Route). any (same_route x) ts) isBest ts (all_in same_route route_self ts))
      (λ x h. let a : x.allowance ≡ f.depth = eqb-true _ _ (snd (any (same_route x) ts) (isBest x) h) ∙ sym e in
      let c : C x.persons f.depth = subst (C x.persons) a (from x (fst (any (same_route x) ts) (isBest x) h)) in
      le-leb (length via) (length x.persons) (omega (arith, given-length m y, m.fewest x.persons c))) in
      any-map (same_list via) (λ (x : Route). x.persons) (keep isShort (keep isBest ts))
      ∙ any-keep (λ x. same_list via x.persons) isShort (keep isBest ts)
      ∙ any-keep (λ x. isShort x && same_list via x.persons) isBest ts
      ∙ any_same (λ x. isBest x && (isShort x && same_list via x.persons)) same_route same_route_lem (route via p f.depth) ts shown
      (both (eq-eqb f.depth (highest ts) e) (both short (list_self via)))

  said-best : (ts : List Route) → ((t : Route) → any (same_route t) ts ≡ true → C t.persons t.allowance)
      → ((ps : List ℕ) (a : ℕ) → C ps a → any (same_route (route ps p a)) ts ≡ true) → decided (best ts) ≡ true → said_of f buffer ≡ best ts
  unfolding best
  said-best [] from into d =
      by_cases f.yes (λ y. absurd (false≢true (unfold any in (into (take f.persons buffer) f.depth (m.shown y))))) (λ y. rw y)
  said-best (t ∷ ts) from into d =
      let first : any (same_route t) (t ∷ ts) ≡ true = unfold any in or_left (same_route t t) (any (same_route t) ts) (route_self t) in
      let y : f.yes ≡ true = (m.greatest t.persons t.allowance (from t first)).0 in
      let shown : any (same_route (route (take f.persons buffer) p f.depth)) (t ∷ ts) ≡ true
      = into (take f.persons buffer) f.depth (m.shown y) in
      let u = highest_is t ts in
      let low = highest_above (route (take f.persons buffer) p f.depth) (t ∷ ts) shown in
      let high = (m.greatest u.0.persons u.0.allowance (from u.0 u.1)).1 in
      let e : f.depth ≡ highest (t ∷ ts) = omega (arith, low, high, u.2) in
      rw (y, e) (ap (yes (highest (t ∷ ts)))
      (only (map (λ (x : Route). x.persons) (shortest (keep (λ x. eqb x.allowance (highest (t ∷ ts))) (t ∷ ts)))) d
      (given_in (t ∷ ts) from y shown e)))
    where
      only : (L : List (List ℕ)) → single L ≡ true → any (same_list (take f.persons buffer)) L ≡ true → take f.persons buffer ∷ [] ≡ L
      only [] d h = absurd (false≢true d)
      only (qs ∷ []) d h =
          ap (λ (x : List ℕ). x ∷ []) (same-list (take f.persons buffer) qs
          (either (same_list (take f.persons buffer) qs) false (unfold any in h) (λ k. k) (λ k. absurd (false≢true k))))
      only (qs ∷ rs ∷ L) d h = absurd (false≢true d)

-- ---- the units after a list of commands
last_agrees : (cs : List Command) (j k : Journal) (u : Units) → Follows flat_step j k u cs
    → Agrees (run j cs) (fed flat_step k cs) (calls u cs)
unfolding calls
last_agrees [] j k u h = h
last_agrees (c ∷ cs) j k u h = last_agrees cs (step j c) (flat_step k c) (called u c) h.2

next-answers : (cs : List Command) (c : Command) (j k : Journal) (u : Units) → Follows flat_step j k u (cs ++ (c ∷ []))
    → Answers (run j cs) (fed flat_step k cs) (calls u cs) c
unfolding calls
next-answers [] c j k u h = h.1
next-answers (x ∷ cs) c j k u h = next-answers cs c (step j x) (flat_step k x) (called u x) h.2

-- the units after a list of commands from the start
after-all : (cs : List Command) → Agrees (run fresh cs) (fed flat_step fresh cs) (calls fresh_units cs)
after-all cs = last_agrees cs fresh fresh fresh_units (agreement cs).every

next-after : (cs : List Command) (c : Command) → Answers (run fresh cs) (fed flat_step fresh cs) (calls fresh_units cs) c
next-after cs c = next-answers cs c fresh fresh fresh_units (agreement (cs ++ (c ∷ []))).every

-- a question that agreement settles: within the limits, and with one shortest best chain at most
abbrev within : Question → Bool
within (asks c) = true
within (checks p) = eqb (asked p 9 1) 0

abbrev settled : Example → Bool
settled e = decided (outcome e) && within e.question

chain_says : (cs : List Command) (q : Question) → decided (said (run fresh cs) q) ≡ true → within q ≡ true
    → chain_said (calls fresh_units cs) q ≡ said (run fresh cs) q
chain_says cs (asks c) d w = ap₂ (told c) (next-after cs c).chain (next-after cs c).count
chain_says cs (checks p) d w =
    let j = run fresh cs in
    let m = (after-all cs).chain.meets (replicate 8 0) refl p 9 1 (eqb-true (asked p 9 1) 0 w) in
    said-best m p (keep (λ t. eqb t.last p) (routes_to (run fresh cs) 9 1 7))
    (λ t h. let k : any (λ u. eqb u.last p && same_route t u) (routes_to (run fresh cs) 9 1 7) ≡ true
    = sym (any-keep (same_route t) (λ u. eqb u.last p) (routes_to (run fresh cs) 9 1 7)) ∙ h in
    let f = found (λ u. eqb u.last p && same_route t u) same_route route_self (routes_to (run fresh cs) 9 1 7) k in
    let e : t ≡ f.0 = same_route_lem t f.0 (snd (eqb f.0.last p) (same_route t f.0) f.1) in
    let l : f.0.last ≡ p = eqb-true f.0.last p (fst (eqb f.0.last p) (same_route t f.0) f.1) in
    let c = up_to-chain (run fresh cs) 9 1 7 t (ap (λ x. any (same_route x) (routes_to (run fresh cs) 9 1 7)) e ∙ f.2) in
    subst (λ (n : ℕ). JournalChain (run fresh cs) 9 1 t.persons n t.allowance) (ap (λ (x : Route). x.last) e ∙ l) c)
    (λ ps a c. let x = chain-route (run fresh cs) 9 1 c in
    let b = journal_short (run fresh cs) (kept_run cs fresh kept_fresh) c in
    any-keep (same_route (route ps p a)) (λ u. eqb u.last p) (routes_to (run fresh cs) 9 1 7)
    ∙ any_same (λ u. eqb u.last p && same_route (route ps p a) u) same_route same_route_lem (route ps p a) (routes_to (run fresh cs) 9 1 7)
    (in_up_to (run fresh cs) 9 1 (same_route (route ps p a)) x.0 7 (omega (arith, x.1)) x.2)
    (both (eqb_self p) (route_self (route ps p a))))
    d

same_outcomes : (f g : Example → Said) (q : Example → Bool) (es : List Example) → all q es ≡ true → ((e : Example) → q e ≡ true → f e ≡ g e)
    → map f es ≡ map g es
unfolding all
same_outcomes f g q [] h e = refl
same_outcomes f g q (x ∷ es) h e =
    ap₂ (λ (y : Said) (ys : List Said). y ∷ ys) (e x (fst (q x) (all q es) h)) (same_outcomes f g q es (snd (q x) (all q es) h) e)

all_settled : all settled examples ≡ true
unfolding fresh base lent_for2 three_depths depth7 eight_persons carries examples any all keep count add tabulate members bit lowest extended routes routes_to highest shortest best
all_settled = refl

-- E1 to E12, of the chain unit
pub chains_hold : map chain_outcome examples ≡ map (λ (e : Example). e.expected) examples
chains_hold =
    same_outcomes chain_outcome outcome settled examples all_settled
    (λ e h. chain_says (base ++ e.first) e.question (fst (decided (outcome e)) (within e.question) h)
    (snd (decided (outcome e)) (within e.question) h))
    ∙ examples_hold

-- and of lists and rows, the commands that they have and every check
flat_says : (cs : List Command) (q : Question)
    → (unit_said lists (calls fresh_units cs).lists q ≡ flat_said (fed flat_step fresh cs) q)
    × (unit_said rows (calls fresh_units cs).rows q ≡ flat_said (fed flat_step fresh cs) q)
flat_says cs (asks c) =
    let a = next-after cs c in
    by_cases (flat c) (λ h. rw h (ap number (a.list h), ap number (a.row h))) (λ h. rw h (refl, refl))
flat_says cs (checks p) =
    let a = after-all cs in
    (ap (λ b. cond b flat_yes no) (a.list.yes p 9 1), ap (λ b. cond b flat_yes no) (a.row.yes p 9 1))

flat-expected : map flat_outcome examples ≡ map (λ (e : Example). e.flat) examples
unfolding fresh base lent_for2 three_depths depth7 eight_persons carries examples any all keep count add tabulate members bit lowest
flat-expected = refl

same-flat : (f : Example → Said) → ((e : Example) → f e ≡ flat_outcome e) → map f examples ≡ map (λ (e : Example). e.flat) examples
same-flat f h = same_outcomes f flat_outcome (λ e. true) examples (all_true examples) (λ e t. h e) ∙ flat-expected

pub lists_hold : map list_outcome examples ≡ map (λ (e : Example). e.flat) examples
lists_hold = same-flat list_outcome (λ e. (flat_says (base ++ e.first) e.question).0)

pub rows_hold : map row_outcome examples ≡ map (λ (e : Example). e.flat) examples
rows_hold = same-flat row_outcome (λ e. (flat_says (base ++ e.first) e.question).1)
