-- What a head says: its method, its route, and what its fields state.
use Rattle.std.specs.Prelude.{ℕ, List, codes, map, if◌then◌else◌, bytes_eq}
use Rattle.httparse.specs.Grammar.{RequestHead}
use Rattle.httparse.specs.Spans.{name_and_value}
use Rattle.head_fields.specs.Fields.{has_field, values}
use Rattle.definitions.specs.Response.{Head, Method, Get, Post, OtherMethod}
use Rattle.intake.specs.Routes.{route_of}
use Rattle.intake.specs.declared.heading.MethodKind.{MethodKind}
use Rattle.intake.specs.declared.heading.MethodKind.TheVariants as kinds

abbrev pub method_of : List ℕ → Method
method_of name =
    if bytes_eq name (codes "GET") then Get
    else (if bytes_eq name (codes "POST") then Post else OtherMethod)

abbrev pub seen_method : MethodKind → Method
seen_method kinds.Get = Get
seen_method kinds.Post = Post
seen_method kinds.Other = OtherMethod

-- what a head of the grammar says
abbrev pub head_of : RequestHead → Head
head_of h =
    let fields = map name_and_value h.fields in
    record {
      method = method_of h.method;
      route = route_of h.target;
      is_encoded = has_field (codes "Transfer-Encoding") fields;
      lengths = values (codes "Content-Length") fields;
    }
