-- Sealing in place: what is written to a buffer, and sealed there, is the protected frame.
use Rattle.std.proofs.Common.{◌≡◌, ◌∙◌, ◌≤◌, ◌-◌, ℕ, List, ◌++◌, length, slice_range, take, drop, ap, sym, arith}
use Rattle.std.proofs.Common.{length-drop}
use Rattle.std.proofs.lemmas.List.{take_all, take_at, drop_at, take-append-drop}
use Rattle.macs_gcm.specs.Gcm.{seal}
use Rattle.macs_frame.specs.Opening.{clear_of, hidden_of, iv_of}
use Rattle.macs_frame.specs.Protection.{header_of, protected_frame, user_data}
use Rattle.macs_frame.specs.declared.tag.SecTag.{SecTag}

-- what is in front stays, and what it is in front of is sealed
sealed_behind : (key iv front hidden buffer after icv : List ℕ) (start : ℕ) → buffer ≡ front ++ hidden
    → length front ≡ start
    → (drop start after, icv) ≡ seal key iv (take start buffer) (drop start buffer)
    → take start after ≡ take start buffer
    → after ++ icv ≡ front ++ (seal key iv front hidden).0 ++ (seal key iv front hidden).1
sealed_behind key iv front hidden buffer after icv start written at sealed kept =
    let before : take start buffer ≡ front = ap (take start) written ∙ take_at front hidden start at in
    let behind : drop start buffer ≡ hidden = ap (drop start) written ∙ drop_at front hidden start at in
    let same : (drop start after, icv) ≡ seal key iv front hidden = rw (← before, ← behind) sealed in
    let whole : after ≡ front ++ drop start after = sym (take-append-drop start after)
    ∙ ap (λ (l : List ℕ). l ++ drop start after) (kept ∙ before) in
    ap (λ (l : List ℕ). l ++ icv) whole ∙ ap (λ (s : List ℕ × List ℕ). front ++ s.0 ++ s.1) same

-- a header, the octets in the clear and the others in a buffer, the others sealed there, and the ICV
pub sealed_in_place : (key sci : List ℕ) (tag : SecTag) (offset : ℕ)
    (plain clear hidden buffer after icv : List ℕ) (start : ℕ)
    → clear ≡ clear_of tag.encrypted offset (user_data plain)
    → hidden ≡ hidden_of tag.encrypted offset (user_data plain)
    → buffer ≡ header_of tag plain ++ clear ++ hidden → length (header_of tag plain ++ clear) ≡ start
    → (drop start after, icv) ≡ seal key (iv_of sci tag.pn) (take start buffer) (drop start buffer)
    → take start after ≡ take start buffer
    → after ++ icv ≡ protected_frame key sci tag offset plain
unfolding protected_frame
sealed_in_place key sci tag offset plain clear hidden buffer after icv start is_clear is_hidden written at sealed kept =
    rw (← is_clear, ← is_hidden) (sealed_behind key (iv_of sci tag.pn) (header_of tag plain ++ clear) hidden buffer
    after icv start written at sealed kept)

-- the range up to the end is what is left
pub slice_range-end : (start : ℕ) (octets : List ℕ) → start ≤ length octets
    → slice_range octets start (length octets) ≡ drop start octets
slice_range-end start octets within =
    take_all (length octets - start) (drop start octets) (omega (arith, length-drop start octets))
