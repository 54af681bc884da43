-- The parts of a URL, cut off one after another.
use Rattle.std.proofs.Common.{◌≡◌, ◌==◌, ℕ, List, Option, refl}
use Rattle.std.specs.List.{before_first}
use Rattle.md_urls.specs.Urls.{Url, after, authority_in, before_fragment, behind_scheme, path_in}
use Rattle.md_urls.specs.Urls.{scheme_in, split}

-- by any functions
module _ (text behind path_of : List ℕ → List ℕ) (part_of : List ℕ → Option (List ℕ))
    (cut : List ℕ → List ℕ) (query_of scheme_of authority_of : List ℕ → Option (List ℕ)) where
  by_cuts : (url whole front rest path : List ℕ)
      (scheme authority query fragment : Option (List ℕ)) → whole ≡ text url →
      fragment ≡ part_of url → front ≡ cut whole → query ≡ query_of whole →
      scheme ≡ scheme_of front → rest ≡ behind front → authority ≡ authority_of rest →
      path ≡ path_of rest →
      ◌≡◌ {A = Url} (record {
        scheme = scheme;
        authority = authority;
        path = path;
        query = query;
        fragment = fragment;
      }) (record {
        scheme = scheme_of (cut (text url));
        authority = authority_of (behind (cut (text url)));
        path = path_of (behind (cut (text url)));
        query = query_of (text url);
        fragment = part_of url;
      })
  by_cuts url whole front rest path scheme authority query fragment e1 e2 e3 e4 e5 e6 e7 e8 =
      rw (e8, e7, e6, e5, e4, e3, e2, e1) refl

pub split-by-cuts : (url whole front rest path : List ℕ)
    (scheme authority query fragment : Option (List ℕ)) → whole ≡ before_fragment url →
    fragment ≡ after 35 url → front ≡ before_first (λ byte. byte == 63) whole →
    query ≡ after 63 whole → scheme ≡ scheme_in front → rest ≡ behind_scheme front →
    authority ≡ authority_in rest → path ≡ path_in rest →
    record {
      scheme = scheme;
      authority = authority;
      path = path;
      query = query;
      fragment = fragment;
    } ≡ split url
split-by-cuts =
    by_cuts before_fragment behind_scheme path_in (after 35) (before_first (λ byte. byte == 63))
    (after 63) scheme_in authority_in
