-- Words and tickets: the words of a state tell it exactly, for the fields of a ticket in order are within their widths; and any words of
-- the image's length are those of the state they tell, for the issuer takes all that lies above the other three fields.
use mathlib.Core.Path.{◌≡◌, refl, sym, ap, ap₂, ◌∙◌}
use mathlib.Core.Bool.{Bool, true, ◌&&◌, false≢true}
use mathlib.Core.List.{List, [], ◌∷◌}
use Prim.Native.Nat.{ℕ, suc, ◌+◌, ◌-◌, ◌*◌, ◌/◌, ◌%◌, ◌≤◌, ◌<◌}
use native.Mathlib.Omega.{arith}
use borrow.Author.Tests.{ltb-true, ltb-false, lt-ltb, leb-true}
use lib.ListN.{length, get_or, drop, drop_of_length-le}
use lib.Seq.{drop-cons}
use lib.Dec.{ltb}
use Rattle.bits.specs.Sets.{all}
use Rattle.bits.specs.Bits.{bit}
use Rattle.bits.proofs.Sets.{fst, snd, both, by_cases, all_mono}
use Rattle.bits.proofs.Bits.{bit_high}
use Rattle.ticketing.specs.declared.Ticket.{Ticket}
use Rattle.ticketing.specs.Machine.{Tickets, ticket, tickets, last_number}
use Rattle.ticketing.specs.Order.{record_ok, sound, Kept}
use Rattle.ticketing.specs.Image.{ticket_words, word_of, ticket_of, words_of, tickets_in, image_of, machine_of, ticket_at, from}
use Rattle.ticketing.proofs.Records.{ok_cases}

-- the fields of a ticket are within their widths
abbrev narrow : Ticket → Bool
narrow t = ltb t.number 4294967296 && (ltb t.item 256 && ltb t.right 256)

-- a word holds its four fields
fields : (n o r p : ℕ) → n < 4294967296 → o < 256 → r < 256
    → (let w = n + o * 4294967296 + r * 1099511627776 + p * 281474976710656 in
    (w % 4294967296 ≡ n) × (w / 4294967296 % 256 ≡ o) × (w / 1099511627776 % 256 ≡ r) × (w / 281474976710656 ≡ p))
fields n o r p a b c = (omega arith, omega arith, omega arith, omega arith)

-- and is made of them, whatever it is
pub word_is : (w : ℕ)
    → w % 4294967296 + w / 4294967296 % 256 * 4294967296 + w / 1099511627776 % 256 * 1099511627776 + w / 281474976710656 * 281474976710656
    ≡ w
word_is w = omega arith

ticket_word : (t : Ticket) → narrow t ≡ true → ticket_of (word_of t) t.holders ≡ t
ticket_word t e =
    let a : t.number < 4294967296 = search (fst, ltb-true) in
    let b : t.item < 256 = search (fst, snd, ltb-true) in
    let c : t.right < 256 = search (fst, snd, ltb-true) in
    let f = fields t.number t.item t.right t.issuer a b c in
    let r : ticket_of (word_of t) t.holders ≡ ticket t.number t.item t.right t.issuer t.holders
    = rw (f.0, f.1, f.2, f.3) in
    r

-- ---- lists of tickets and of words
tickets-words : (ts : List Ticket) → all narrow ts ≡ true → tickets_in (words_of ts) ≡ ts
unfolding all words_of tickets_in
tickets-words [] e = refl
tickets-words (t ∷ ts) e =
    ap₂ ◌∷◌ (ticket_word t (fst (narrow t) (all narrow ts) e)) (tickets-words ts (snd (narrow t) (all narrow ts) e))

-- any words of even length are those of the tickets they tell
pub words-tickets : (s : List ℕ) (n : ℕ) → length s ≡ 2 * n → words_of (tickets_in s) ≡ s
unfolding words_of tickets_in
words-tickets [] n e = refl
words-tickets (w ∷ []) n e = absurd (omega arith)
words-tickets (w ∷ h ∷ s) n e = ap₂ (λ (a : ℕ) (b : List ℕ). a ∷ h ∷ b) (word_is w) (words-tickets s (n - 1) (omega arith))

-- two words to a ticket
pub length-words : (ts : List Ticket) → length (words_of ts) ≡ 2 * length ts
unfolding words_of
length-words [] = refl
length-words (t ∷ ts) = let ih = length-words ts in omega arith

pub length-tickets : (s : List ℕ) (n : ℕ) → length s ≡ 2 * n → length (tickets_in s) ≡ n
unfolding tickets_in
length-tickets [] n e = omega arith
length-tickets (w ∷ []) n e = absurd (omega arith)
length-tickets (w ∷ h ∷ s) n e = let ih = length-tickets s (n - 1) (omega arith) in omega arith

-- ---- a state and its image
pub length-image : (m : Tickets) → length m.records ≡ 1024 → length (image_of m) ≡ ticket_words
unfolding image_of
length-image m e = let k = length-words m.records in omega arith

-- an image of its length tells 1,024 records, and a state whose image it is
pub length-records : (s : List ℕ) → length s ≡ ticket_words → length (machine_of s).records ≡ 1024
unfolding machine_of
length-records (a ∷ b ∷ s) e = length-tickets s 1024 (omega arith)
length-records [] e = absurd (omega arith)
length-records (a ∷ []) e = absurd (omega arith)

pub image-parts : (s : List ℕ) → length s ≡ ticket_words → image_of (machine_of s) ≡ s
unfolding image_of machine_of
image-parts (a ∷ b ∷ s) e = ap (λ (x : List ℕ). a ∷ b ∷ x) (words-tickets s 1024 (omega arith))
image-parts [] e = absurd (omega arith)
image-parts (a ∷ []) e = absurd (omega arith)

-- ---- the tickets of an image, place after place
pub from_zero : (s : List ℕ) → (machine_of s).records ≡ from s 0
unfolding machine_of from
from_zero s = refl

pub from_step : (s : List ℕ) (k : ℕ) → 2 * k + 4 ≤ length s → from s k ≡ ticket_at s k ∷ from s (k + 1)
unfolding from tickets_in
from_step s k l =
    let a : drop (2 + 2 * k) s ≡ get_or s (2 + 2 * k) 0 ∷ drop (suc (2 + 2 * k)) s = drop-cons s (2 + 2 * k) 0 (omega arith) in
    let p : suc (2 + 2 * k) ≡ 3 + 2 * k = omega arith in
    let b : drop (3 + 2 * k) s ≡ get_or s (3 + 2 * k) 0 ∷ drop (suc (3 + 2 * k)) s = drop-cons s (3 + 2 * k) 0 (omega arith) in
    let q : suc (3 + 2 * k) ≡ 2 + 2 * (k + 1) = omega arith in
    rw (a, p, b, q)

pub from_end : (s : List ℕ) → length s ≡ ticket_words → from s 1024 ≡ []
unfolding from tickets_in
from_end s e = rw (drop_of_length-le s {i = 2050} (omega arith))

-- ---- a state in order is told by its image
module _ (m : Tickets) (v : Kept m) where
  pub live_below : (i : ℕ) → bit m.live i ≡ true → i < 64
  live_below i e =
      by_cases (ltb i 64) (λ t. ltb-true i 64 t)
      (λ f. absurd (false≢true (sym (bit_high 64 m.live i v.live-set (ltb-false i 64 f)) ∙ e)))

  narrow_record : (t : Ticket) → record_ok m.live m.next t ≡ true → narrow t ≡ true
  narrow_record t k = ok_cases m.live m.next t k (λ z. rw z) (λ s q. wide q)
    where
      wide : sound m.live m.next t ≡ true → narrow t ≡ true
      wide q =
          let a : t.number < m.next = search (fst, snd, ltb-true) in
          let b : t.right ≤ 7 = search (fst, snd, leb-true) in
          let c : bit m.live t.item ≡ true = search (fst, snd) in
          let d = live_below t.item c in
          let o = v.order in
          let y : m.next ≤ last_number = search (fst, snd, leb-true) in
          both (lt-ltb t.number 4294967296 (omega arith))
          (both (lt-ltb t.item 256 (omega arith)) (lt-ltb t.right 256 (omega arith)))

  narrow_all : all narrow m.records ≡ true
  narrow_all =
      let o = v.order in
      let r : all (record_ok m.live m.next) m.records ≡ true = search (fst, snd) in
      all_mono (record_ok m.live m.next) narrow m.records r narrow_record

  pub machine_image : machine_of (image_of m) ≡ m
  unfolding machine_of image_of
  machine_image = ap (tickets m.live m.next) (tickets-words m.records narrow_all)
