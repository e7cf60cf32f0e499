-- Lists of texts, as they are written.
use Rattle.std.proofs.Common.{◌≡◌, ◌==◌, false, String, Global, string_bytes, rules, ℕ, ◌+◌, ◌<◌, map, take, sym, ◌∙◌, List, [], ◌∷◌, ◌++◌, length, get_or, Some, refl, ap, add-one}
use Rattle.std.proofs.Math.Seq.{take-suc}
use Rattle.std.proofs.lemmas.List.{map-append}
use Rattle.serde_json.specs.Data.{Members, put, array, string, item}
use Rattle.serde_json.specs.View.{view, items_view}
use Rattle.serde_json.specs.declared.value.Value.{Value, the_lemmas}
use Rattle.aud_tap.proofs.Json.{with_last, items_view-push}
use Rattle.aud_reader.specs.Fields.{decoded}
use Rattle.aud_writer.specs.Written.{encoded, text_items}
use Rattle.aud_writer.specs.BytesBack.{DecodeBack, put_unless_empty}

-- a text put last is the last item
text_items-push : (ts : List (List ℕ)) (t : List ℕ) → text_items (ts ++ t ∷ []) ≡ with_last (text_items ts) (string t)
text_items-push [] t = refl
text_items-push (u ∷ ts) t = ap (item (string u)) (text_items-push ts t)

-- a list of values that shows texts, and one more of each
one_more : (vs : List Value) (ts : List (List ℕ)) (v : Value) (t : List ℕ) → items_view vs ≡ text_items ts → view v ≡ string t → items_view (vs ++ v ∷ []) ≡ text_items (ts ++ t ∷ [])
one_more vs ts v t same is = items_view-push vs v ∙ rw (same, is) (sym (text_items-push ts t))

-- the texts written so far, and one more
pub texts-more : (vs : List Value) (ts : List (List ℕ)) (i : ℕ) (v : Value) (t : List ℕ) → i < length ts → t ≡ get_or ts i t → view v ≡ string t
    → items_view vs ≡ text_items (take i ts) → items_view (vs ++ v ∷ []) ≡ text_items (take (i + 1) ts)
texts-more vs ts i v t h at is same = rw (add-one, take-suc ts i t h, ← at) (one_more vs (take i ts) v t same is)

-- the attachments written so far, and one more
pub blobs-more : (vs : List Value) (bs : List (List ℕ)) (i : ℕ) (v : Value) (b : List ℕ) → i < length bs → b ≡ get_or bs i b → view v ≡ string (encoded b)
    → items_view vs ≡ text_items (map encoded (take i bs)) → items_view (vs ++ v ∷ []) ≡ text_items (map encoded (take (i + 1) bs))
blobs-more vs bs i v b h at is same = rw (add-one, take-suc bs i b h, ← at, map-append encoded (take i bs) (b ∷ [])) (one_more vs (map encoded (take i bs)) v (encoded b) same is)

-- a string's value shows its bytes
pub view-String : (s : String Global) → view (Value.String s) ≡ string (string_bytes s)
view-String s = search (rules, the_lemmas)

-- a list that is not empty is put
pub put-some : (key : List ℕ) (vs : List Value) (ms : Members) → false ≡ (length vs == 0) → put key (array (items_view vs)) ms ≡ put_unless_empty key (items_view vs) ms
put-some key [] ms h = cc
put-some key (v ∷ vs) ms h = refl

-- attachments that decode to what they were, and one more that does
decode_back-push : (bs : List (List ℕ)) (b : List ℕ) → DecodeBack bs → decoded (encoded b) ≡ Some b → DecodeBack (bs ++ b ∷ [])
decode_back-push [] b h back = (back, tt)
decode_back-push (c ∷ bs) b h back = (h.0, decode_back-push bs b h.1 back)

-- the attachments looked at so far, and one more that decodes to what it was
pub decode_back-more : (bs : List (List ℕ)) (i : ℕ) (b : List ℕ) → i < length bs → b ≡ get_or bs i b → decoded (encoded b) ≡ Some b → DecodeBack (take i bs) → DecodeBack (take (i + 1) bs)
decode_back-more bs i b h at back before = rw (add-one, take-suc bs i b h, ← at) (decode_back-push (take i bs) b before back)
