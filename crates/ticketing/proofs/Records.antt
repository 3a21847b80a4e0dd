-- Records in order: what a record of a ticket state in order says, and that a new ticket and every change that a command makes to a ticket
-- leave it in order. A record in order is the all-zero one or a live and sound ticket; each law is told of these two.
use mathlib.Core.Path.{◌≡◌, refl, sym, ap, ◌∙◌}
use mathlib.Core.Bool.{true, false, not, ◌&&◌, ◌||◌, false≢true}
use Prim.Native.Nat.{ℕ, ◌≤◌, ◌<◌}
use native.Mathlib.Omega.{arith}
use borrow.Author.Tests.{eqb-true, ltb-true, lt-ltb, not-true}
use lib.Dec.{eqb, leb, ltb}
use Rattle.bits.specs.Bits.{bit, with_bit, without_bit}
use Rattle.model.specs.Commands.{members_of}
use Rattle.bits.proofs.Sets.{fst, snd, both, either, neither, or_right, all_from, all-at, eqb_self}
use Rattle.bits.proofs.Members.{is_member}
use Rattle.bits.proofs.Bits.{bit_with, bit-without}
use Rattle.ticketing.specs.declared.Ticket.{Ticket}
use Rattle.ticketing.specs.Machine.{ticket, vacant, is_live, is_number, changed, with_holder, ended, without}
use Rattle.ticketing.specs.Order.{all_zero, among, sound, record_ok}
use Rattle.ticketing.proofs.Places.{picked, holder_lives, lives_before}

-- ---- sets of items
-- the live ones among the holders
pub among-at : (h l i : ℕ) → among h l ≡ true → i < 64 → bit h i ≡ true → bit l i ≡ true
among-at h l i a k e = all-at (bit l) (members_of h) a i (is_member 64 h i ∙ both (lt-ltb i 64 k) e)

pub among_of : (h l : ℕ) → ((i : ℕ) → i < 64 → bit h i ≡ true → bit l i ≡ true) → among h l ≡ true
among_of h l f =
    all_from (bit l) (members_of h)
    (λ i e. let k : ltb i 64 && bit h i ≡ true = sym (is_member 64 h i) ∙ e in
    f i (ltb-true i 64 (fst (ltb i 64) (bit h i) k)) (snd (ltb i 64) (bit h i) k))

-- ---- records
-- a record in order is all zero, or lives and is sound
pub ok_cases : {X : Type 0} (l n : ℕ) (t : Ticket) → record_ok l n t ≡ true → (t ≡ vacant → X) → (is_live t ≡ true → sound l n t ≡ true → X)
    → X
ok_cases l n t e f g =
    either (all_zero t) (is_live t && sound l n t) e (λ z. f (zeros z))
    (λ k. g (fst (is_live t) (sound l n t) k) (snd (is_live t) (sound l n t) k))
  where
    zeros : all_zero t ≡ true → t ≡ vacant
    zeros z =
        let a : t.number ≡ 0 = search (fst, snd, eqb-true) in
        let b : t.item ≡ 0 = search (fst, snd, eqb-true) in
        let c : t.right ≡ 0 = search (fst, snd, eqb-true) in
        let d : t.issuer ≡ 0 = search (fst, snd, eqb-true) in
        let h : t.holders ≡ 0 = search (fst, snd, eqb-true) in
        let r : ticket t.number t.item t.right t.issuer t.holders ≡ vacant = cc in
        r

pub ok_sound : (l n : ℕ) (t : Ticket) → is_live t ≡ true → sound l n t ≡ true → record_ok l n t ≡ true
ok_sound l n t s k = or_right (all_zero t) (is_live t && sound l n t) (both s k)

-- what a sound ticket says
pub record Sound (l n : ℕ) (t : Ticket) : Type 0 where
  pub number : ltb t.number n ≡ true
  pub limits : leb t.right 7 && leb t.issuer 63 ≡ true
  pub item : bit l t.item ≡ true
  pub holders : among t.holders l ≡ true

pub sound-parts : (l n : ℕ) (t : Ticket) → sound l n t ≡ true → Sound l n t
sound-parts l n t k = record {
  number = search (fst, snd);
  limits = search (fst, snd);
  item = search (fst, snd);
  holders = search (fst, snd);
}

-- more items and a higher next number
pub ok_grow : (l n l' n' : ℕ) → ((i : ℕ) → bit l i ≡ true → bit l' i ≡ true) → n ≤ n' → (t : Ticket) → record_ok l n t ≡ true
    → record_ok l' n' t ≡ true
ok_grow l n l' n' up le t e = ok_cases l n t e (λ z. rw z) (λ s k. ok_sound l' n' t s (more (sound-parts l n t k)))
  where
    more : Sound l n t → sound l' n' t ≡ true
    more a =
        let x = ltb-true t.number n a.number in
        both (both (lt-ltb t.number n' (omega arith)) a.limits)
        (both (up t.item a.item) (among_of t.holders l' (λ i q h. up i (among-at t.holders l i a.holders q h))))

-- a change of one number, by what it makes of a live and sound ticket
pub ok_changed : (l n k : ℕ) (f : Ticket → Ticket) → ((t : Ticket) → is_live t ≡ true → Sound l n t → record_ok l n (f t) ≡ true)
    → (t : Ticket) → record_ok l n t ≡ true → record_ok l n (changed k f t) ≡ true
ok_changed l n k f g t e =
    ok_cases l n t e (λ z. rw z)
    (λ s q. picked (λ u. record_ok l n u ≡ true) (is_number k t) (f t) t (λ b. g t s (sound-parts l n t q)) (λ b. e))

pub ok_holder : (l n to : ℕ) → bit l to ≡ true → (t : Ticket) → is_live t ≡ true → Sound l n t → record_ok l n (with_holder to t) ≡ true
ok_holder l n to live t s a =
    ok_sound l n (with_holder to t)
    (holder_lives (with_holder to t) to (bit_with t.holders to to ∙ or_right (bit t.holders to) (eqb to to) (eqb_self to)))
    (both (both a.number a.limits) (both a.item (among_of (with_bit t.holders to) l
    (λ i w h. either (bit t.holders i) (eqb i to) (sym (bit_with t.holders to i) ∙ h) (among-at t.holders l i a.holders w)
    (λ y. ap (bit l) (eqb-true i to y) ∙ live)))))

pub ok_ended : (l n : ℕ) (t : Ticket) → is_live t ≡ true → Sound l n t → record_ok l n (ended t) ≡ true
ok_ended l n t s a = refl

-- without an item
pub ok_without : (l n on : ℕ) (t : Ticket) → record_ok l n t ≡ true → record_ok (without_bit l on) n (without on t) ≡ true
ok_without l n on t e =
    picked (λ u. record_ok (without_bit l on) n u ≡ true) (eqb t.item on || eqb (without_bit t.holders on) 0) vacant left (λ b. refl)
    (λ b. let x = neither (eqb t.item on) (eqb (without_bit t.holders on) 0) b in
    ok_cases l n t e (λ z. absurd (false≢true (ap (λ (x : Ticket). is_live x) (sym z) ∙ lives_before t on x.1)))
    (λ s k. ok_sound (without_bit l on) n left (ap not x.1) (fewer x.0 (sound-parts l n t k))))
  where
    left : Ticket
    left = ticket t.number t.item t.right t.issuer (without_bit t.holders on)

    low : (i : ℕ) → eqb i on ≡ false → bit l i ≡ true → bit (without_bit l on) i ≡ true
    low i q h = bit-without l on i ∙ both h (ap not q)

    apart : (i : ℕ) → bit (without_bit t.holders on) i ≡ true → (bit t.holders i ≡ true) × (eqb i on ≡ false)
    apart i h =
        let k : bit t.holders i && not (eqb i on) ≡ true = sym (bit-without t.holders on i) ∙ h in
        (fst (bit t.holders i) (not (eqb i on)) k, not-true (eqb i on) (snd (bit t.holders i) (not (eqb i on)) k))

    fewer : eqb t.item on ≡ false → Sound l n t → sound (without_bit l on) n left ≡ true
    fewer p a =
        both (both a.number a.limits) (both (low t.item p a.item) (among_of (without_bit t.holders on) (without_bit l on)
        (λ i w h. let x = apart i h in low i x.1 (among-at t.holders l i a.holders w x.0))))
